-- The lists between two cuts of phase two.
use mathlib.Core.Path.{◌≡◌}
use mathlib.Core.Logic.{◌⊎◌}
use Prim.Native.Nat.{ℕ, ◌≤◌, ◌<◌}
use native.Mathlib.Omega.{arith}
use Rattle.roommates.proofs.Basics.{Bands, Below, Prefers}

-- Lists T, not empty for the joints of N and no others. first and last undo each other:
-- p's first is strictly its best, and has p in its worst band.
pub record Table (P : Bands) (N : ℕ → Type 0) (T : Bands) : Type 0 where
  pub below : Below T P
  pub listed : (p q : ℕ) → 0 < T p q → N p
  pub first : ℕ → ℕ
  pub last : ℕ → ℕ
  pub has_first : (p : ℕ) → N p → 0 < T p (first p)
  pub has_last : (p : ℕ) → N p → 0 < T p (last p)
  pub best : (p q : ℕ) → 0 < T p q → (q ≡ first p) ⊎ (T p (first p) < T p q)
  pub worst : (p q : ℕ) → 0 < T p q → T p q ≤ T p (last p)
  pub last_first : (p : ℕ) → N p → last (first p) ≡ p
  pub first_last : (p : ℕ) → N p → first (last p) ≡ p
  -- a struck pair has a side whose whole list is strictly better than the other
  pub struck : (a b : ℕ) → 0 < P a b → (0 < T a b) ⊎ ((N a × (T a (last a) < P a b)) ⊎ (N b × (T b (last b) < P b a)))

module _ {P T : Bands} {N : ℕ → Type 0} (t : Table P N T) where
  pub first_in : (p : ℕ) → N p → N (t.first p)
  first_in p Np = t.listed _ _ (t.below.both _ _ (t.has_first p Np))

  -- whoever finds its whole list better than q prefers its partner, if that is on the list
  pub prefers : (M : ℕ → ℕ) (p q : ℕ) → 0 < T p (M p) → T p (t.last p) < P p q → Prefers P M p q
  prefers M p q l h =
      let k = t.below.kept p _ l in
      let m = t.worst p _ l in
      (omega arith, omega arith)
