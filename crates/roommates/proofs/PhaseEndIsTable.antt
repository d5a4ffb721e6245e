-- Corollary 3.3: the lists at the end of phase one make a table, if nobody who received is left with none.
use mathlib.Core.Logic.{◌⊎◌, ⊎_map}
use Prim.Native.Nat.{ℕ, ◌<◌}
use Rattle.roommates.proofs.Basics.{Bands, Below, Beaten, PhaseEnd}
use Rattle.roommates.proofs.Tables.{Table}

-- The end of phase one from any lists T₀ has the heads of a table. What is left to show is who struck each pair.
pub ended_table : {P T₀ T : Bands} {R N : ℕ → Type 0} (e : PhaseEnd T₀ T R)
    → Below T P
    → ((p q : ℕ) → 0 < T p q → N p)
    → ((p : ℕ) → N p → (q : ℕ) × (0 < T p q))
    → ((a b : ℕ) → 0 < P a b → (0 < T a b) ⊎ ((N a × (T a (e.last a) < P a b)) ⊎ (N b × (T b (e.last b) < P b a))))
    → Table P N T
ended_table e below listed some_left struck =
    record {
      below = below;
      listed = listed;
      first = e.first;
      last = e.last;
      has_first = λ p Np. e.has_first p _ (some_left p Np).1;
      has_last = λ p Np. e.has_last p _ (some_left p Np).1;
      best = e.best;
      worst = e.worst;
      last_first = λ p Np. e.last_first p _ (some_left p Np).1;
      first_last = λ p Np. e.first_last p _ (some_left p Np).1;
      struck = struck;
    }

pub phase_end_table : {P T : Bands} {R N : ℕ → Type 0} → PhaseEnd P T R
    → ((p q : ℕ) → 0 < T p q → N p)
    → ((p : ℕ) → N p → (q : ℕ) × (0 < T p q))
    → ((p : ℕ) → R p → N p)
    → Table P N T
phase_end_table {P} {T} {R} {N} e listed some_left received =
    ended_table e e.below listed some_left (λ a b l. ⊎_map (λ k. k) (⊎_map (side a b) (side b a)) (e.struck a b l))
  where
    side : (a b : ℕ) → R a × Beaten P T a b → N a × (T a (e.last a) < P a b)
    side a b w = let Na = received a w.0 in (Na, w.1 _ (e.has_last a _ (some_left a Na).1))
