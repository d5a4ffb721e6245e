-- The plain statement behind the tests: parents and partners as functions, 255 for a root and for an unpaired joint.
use Rattle.std.specs.Prelude.{◌≡◌, ◌⊎◌, ◌≢◌, ℕ, ◌≤◌, ◌<◌}
use Rattle.matching.specs.Matchings.{pair_number}

-- The pair of a and b follows the skeleton: the two parents are paired together, or are one joint, or both joints are roots. A root has no parent.
abbrev pub Follows : (ℕ → ℕ) → (ℕ → ℕ) → ℕ → ℕ → Type 0
Follows parent partner a b =
    ((parent a ≢ 255) × (parent b ≢ 255) × ((partner (parent a) ≡ parent b) ⊎ (parent a ≡ parent b)))
    ⊎ ((parent a ≡ 255) × (parent b ≡ 255))

-- A pair of a and b, a below b, that does not follow.
pub record Stray (n : ℕ) (parent partner : ℕ → ℕ) (a b : ℕ) : Type 0 where
  pub below : a < b
  pub joint : b < n
  pub paired : partner b ≡ a
  pub astray : Follows parent partner a b → ⊥

-- The lowest number of one.
pub record LowestStray (n : ℕ) (parent partner : ℕ → ℕ) (number : ℕ) : Type 0 where
  pub lower : ℕ
  pub higher : ℕ
  pub stray : Stray n parent partner lower higher
  pub numbered : number ≡ pair_number lower higher
  pub lowest : (a b : ℕ) → Stray n parent partner a b → number ≤ pair_number a b
