-- Section 5.1: where a joint has received and has an empty list, every matching on the lists has a blocking pair.
use mathlib.Core.Path.{◌≡◌}
use Prim.Native.Nat.{ℕ, ◌<◌}
use native.Mathlib.Omega.{arith}
use Rattle.base.proofs.Cases.{case}
use Rattle.roommates.proofs.Basics.{Bands, Below, Stable, On}
use Rattle.roommates.proofs.Proposals.{State, Invariant}
use Rattle.roommates.proofs.StrikesCompose.{below_trans}

pub ReceivedEmpty : {T₀ P : Bands} {M : ℕ → ℕ} {w : State} → Stable P M → Below T₀ P → On P w.lists M → Invariant T₀ w
    → (q : ℕ) → w.Received q → ((r : ℕ) → ¬ (0 < w.lists q r)) → ⊥
ReceivedEmpty {T₀} {P} {M} {w} stable under on inv q got empty =
    let (p, was, best, worst) = inv.received q got in
    let backward = under.both q p was in
    let e = under.kept q p was in
    let f = under.kept p q backward in
    case (stable.unblocked p q (omega arith))
    (λ m.
    let there : 0 < P p q = omega arith in
    let b : M q ≡ p = rw m at (stable.back p (rw m there)) in
    let here : 0 < P q p = omega arith in
    empty (M q) (on q (rw b here)))
    λ g. case g
    (λ x. let h = on p x.0 in
    let l = best (M p) h in
    let k = (below_trans inv.below under).kept p (M p) h in
    let y = x.1 in
    omega arith)
    λ x. empty (M q) (on q x.0)
