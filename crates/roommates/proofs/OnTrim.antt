-- A matching stays on the lists where a trim at q spares q's own pair.
use mathlib.Core.Path.{◌≡◌}
use Prim.Native.Nat.{ℕ, ◌≤◌, ◌<◌}
use native.Mathlib.Omega.{arith}
use Rattle.base.proofs.Cases.{case}
use Rattle.roommates.proofs.Basics.{Bands, Stable, On}
use Rattle.roommates.proofs.Proposals.{Trim}

pub On-trim : {P T T' : Bands} {M : ℕ → ℕ} {q k : ℕ} → ((a b : ℕ) → 0 < P a b → 0 < P b a) → Stable P M → On P T M
    → Trim T T' q k → (0 < P q (M q) → T q (M q) < k) → On P T' M
On-trim {P} {T} {T'} {M} {q} {k} bothP stable on trim spared a paired = case (trim.gone a (M a) (on a paired)) (λ h. h)
    λ g. absurd (case g
    (λ x. let l = spared (rw x.0 at paired) in let y : k ≤ T q (M q) = rw x.0 at x.1 in omega arith)
    λ x.
    let e : M q ≡ a = rw x.0 at (stable.back a paired) in
    let m : 0 < P q (M q) = rw e (rw x.0 at (bothP a (M a) paired)) in
    let l = spared m in
    let y : k ≤ T q (M q) = rw e (rw x.0 at x.1) in
    omega arith)
