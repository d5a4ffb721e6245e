-- One proposal, as the theory sees it: what it strikes, who has received, which proposals stand.
use mathlib.Core.Path.{◌≡◌}
use mathlib.Core.Logic.{◌⊎◌, ◌≢◌}
use Prim.Native.Nat.{ℕ, suc, ◌≤◌, ◌<◌}
use Rattle.roommates.proofs.Basics.{Bands, Below, Beaten}

-- T' is T without the pairs {q, r} that q has in band k or worse.
pub record Trim (T T' : Bands) (q k : ℕ) : Type 0 where
  pub same : (a b : ℕ) → 0 < T' a b → T' a b ≡ T a b
  pub both : (a b : ℕ) → 0 < T' a b → 0 < T' b a
  pub limit : (r : ℕ) → 0 < T' q r → T q r < k
  pub gone : (a b : ℕ) → 0 < T a b → (0 < T' a b) ⊎ (((a ≡ q) × (k ≤ T a b)) ⊎ ((b ≡ q) × (k ≤ T b a)))

-- The lists, who has received a proposal, and whose proposal stands at whom.
pub record State : Type 1 where
  pub lists : Bands
  pub Received : ℕ → Type 0
  pub Stands : ℕ → ℕ → Type 0

-- p, with q in the best band of its list, proposes to q. All worse than p are struck from q's list;
-- where another proposal then stands at q, the whole band of p is struck too.
pub record Proposal (w w' : State) (p q : ℕ) : Type 0 where
  pub listed : 0 < w.lists p q
  pub best : (r : ℕ) → 0 < w.lists p r → w.lists p q ≤ w.lists p r
  pub strikes : (Trim w.lists w'.lists q (suc (w.lists q p)) × ((s : ℕ) → w.Stands s q → 0 < w'.lists s q → s ≡ p))
      ⊎ (Trim w.lists w'.lists q (w.lists q p)
      × ((s : ℕ) × (s ≢ p) × (w.Stands s q) × (0 < w.lists q s) × (w.lists q s ≤ w.lists q p)))
  pub now_received : w'.Received q
  pub still_received : (a : ℕ) → w.Received a → w'.Received a
  pub only_received : (a : ℕ) → w'.Received a → (w.Received a) ⊎ (a ≡ q)
  pub stands : (a b : ℕ) → w'.Stands a b → (0 < w'.lists a b) × ((w.Stands a b) ⊎ ((a ≡ p) × (b ≡ q)))

-- Holds between proposals, started from the lists T₀ with nothing standing.
pub record Invariant (T₀ : Bands) (w : State) : Type 0 where
  pub below : Below w.lists T₀
  -- a struck pair has a side that received and has only strictly better ones left
  pub struck : (a b : ℕ) → 0 < T₀ a b
      → (0 < w.lists a b) ⊎ ((w.Received a × Beaten T₀ w.lists a b) ⊎ (w.Received b × Beaten T₀ w.lists b a))
  pub listed : (p q : ℕ) → w.Stands p q → 0 < w.lists p q
  pub heads : (p q : ℕ) → w.Stands p q → (r : ℕ) → 0 < w.lists p r → w.lists p q ≤ w.lists p r
  pub holder_received : (p q : ℕ) → w.Stands p q → w.Received q
  pub holder_worst : (p q : ℕ) → w.Stands p q → (r : ℕ) → 0 < w.lists q r → w.lists q r ≤ w.lists q p
  pub one_stands : (p s q : ℕ) → w.Stands p q → w.Stands s q → s ≡ p
  -- whoever received has someone that finds nobody better, and nobody worse than that one
  pub received : (q : ℕ) → w.Received q
      → (p : ℕ) × (0 < T₀ q p) × ((r : ℕ) → 0 < w.lists p r → T₀ p q ≤ w.lists p r) × ((r : ℕ) → 0 < w.lists q r → w.lists q r ≤ T₀ q p)

-- Nobody waits: each joint's proposal stands at all of the best band of its list.
abbrev pub Ended : State → Type 0
Ended w = (p q : ℕ) → 0 < w.lists p q → ((r : ℕ) → 0 < w.lists p r → w.lists p q ≤ w.lists p r) → w.Stands p q
