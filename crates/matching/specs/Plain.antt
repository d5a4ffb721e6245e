-- The plain statement behind the test: bands and partners as functions, 255 for unpaired.
use Rattle.std.specs.Prelude.{◌≡◌, ◌⊎◌, ℕ, ◌<◌}

-- a is paired with a joint that it lists and whose partner is a
pub record Paired (n : ℕ) (band : ℕ → ℕ → ℕ) (partner : ℕ → ℕ) (a : ℕ) : Type 0 where
  pub with_joint : partner a < n
  pub listed : 0 < band a (partner a)
  pub back : partner (partner a) ≡ a

pub record Matching (n : ℕ) (band : ℕ → ℕ → ℕ) (partner : ℕ → ℕ) : Type 0 where
  pub placed : (a : ℕ) → a < n → (partner a ≡ 255) ⊎ Paired n band partner a
