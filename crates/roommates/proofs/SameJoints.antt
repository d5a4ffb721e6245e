-- Theorem 5.1: at the end of phase one every matching that no pair blocks pairs exactly the joints whose list is not empty.
use mathlib.Core.Path.{◌≡◌, ◌∙◌}
use Prim.Native.Nat.{ℕ, ◌<◌}
use native.Mathlib.Omega.{arith}
use Rattle.base.proofs.Cases.{case}
use Rattle.roommates.proofs.Basics.{Bands, Stable, On, PhaseEnd}
use Rattle.roommates.proofs.StrikesCompose.{was_there}

-- The other way round is On itself.
pub SameJoints : {P T : Bands} {R : ℕ → Type 0} {M : ℕ → ℕ} → PhaseEnd P T R → Stable P M → On P T M
    → (x y : ℕ) → 0 < T x y → 0 < T x (M x)
SameJoints {P} {T} {R} {M} end stable on x y h =
    let z = end.last x in
    let there : 0 < T x z = end.has_last x y h in
    let here : 0 < T z x = end.below.both x z there in
    let top : end.first z ≡ x = end.first_last x y h in
    case (stable.unblocked z x (was_there end.below z x here))
    (λ m.
    let b : M x ≡ z = rw m at (stable.back z (rw m (was_there end.below z x here))) in
    rw b there)
    λ g. case g
    (λ u.
    let k = on z u.0 in
    let e = end.below.kept z (M z) k in
    let f = end.below.kept z x here in
    let y = u.1 in
    absurd (case (end.best z (M z) k)
    (λ i. let j : P z (M z) ≡ P z x = rw (i ∙ top) in omega arith)
    λ l. let j : T z x < T z (M z) = rw top at l in omega arith))
    λ u. on x u.0
