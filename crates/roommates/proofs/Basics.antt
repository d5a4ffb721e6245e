-- Lists and matchings as functions: the form in which the theory is stated.
use mathlib.Core.Path.{◌≡◌}
use mathlib.Core.Logic.{◌⊎◌}
use Prim.Native.Nat.{ℕ, ◌≤◌, ◌<◌}

-- the band of b on a's list, 0 for unlisted
abbrev pub Bands : Type 0
Bands = ℕ → ℕ → ℕ

-- T is T₀ with some pairs struck from both lists.
pub record Below (T T₀ : Bands) : Type 0 where
  pub kept : (a b : ℕ) → 0 < T a b → T a b ≡ T₀ a b
  pub both : (a b : ℕ) → 0 < T a b → 0 < T b a

-- p is paired, and strictly prefers its partner to q
abbrev pub Prefers : Bands → (ℕ → ℕ) → ℕ → ℕ → Type 0
Prefers P M p q = (0 < P p (M p)) × (P p (M p) < P p q)

-- Partners M that no pair blocks. A joint p is unpaired where M p is not on its list.
pub record Stable (P : Bands) (M : ℕ → ℕ) : Type 0 where
  pub back : (p : ℕ) → 0 < P p (M p) → M (M p) ≡ p
  pub unblocked : (p q : ℕ) → 0 < P p q → (M p ≡ q) ⊎ (Prefers P M p q ⊎ Prefers P M q p)

-- every pair of M is on T
abbrev pub On : Bands → Bands → (ℕ → ℕ) → Type 0
On P T M = (p : ℕ) → 0 < P p (M p) → 0 < T p (M p)

-- everything on q's list in T is in a strictly better band than r had in T₀
abbrev pub Beaten : Bands → Bands → ℕ → ℕ → Type 0
Beaten T₀ T q r = (s : ℕ) → 0 < T q s → T q s < T₀ q r

-- What holds where phase one, started from T₀, has ended with the lists T: who received, and each list's first and last joint.
pub record PhaseEnd (T₀ T : Bands) (Received : ℕ → Type 0) : Type 0 where
  pub below : Below T T₀
  -- a struck pair has a side that received and has only strictly better ones left
  pub struck : (a b : ℕ) → 0 < T₀ a b → (0 < T a b) ⊎ ((Received a × Beaten T₀ T a b) ⊎ (Received b × Beaten T₀ T b a))
  pub first : ℕ → ℕ
  pub last : ℕ → ℕ
  pub has_first : (p q : ℕ) → 0 < T p q → 0 < T p (first p)
  pub has_last : (p q : ℕ) → 0 < T p q → 0 < T p (last p)
  pub best : (p q : ℕ) → 0 < T p q → (q ≡ first p) ⊎ (T p (first p) < T p q)
  pub worst : (p q : ℕ) → 0 < T p q → T p q ≤ T p (last p)
  pub last_first : (p q : ℕ) → 0 < T p q → last (first p) ≡ p
  pub first_last : (p q : ℕ) → 0 < T p q → first (last p) ≡ p
  -- whoever received was on a list at the start
  pub was_listed : (q : ℕ) → Received q → (p : ℕ) × (0 < T₀ q p)
