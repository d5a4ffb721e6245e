-- The plain statement behind the tests: bands and partners as functions, 255 for unpaired.
use Rattle.std.specs.Prelude.{◌≡◌, ◌⊎◌, ◌≢◌, ℕ, ◌≤◌, ◌<◌}
use Rattle.matching.specs.Matchings.{pair_number}
use Rattle.matching.specs.Plain.{Matching}

-- a is unpaired, or has b in a band no worse than its partner's
abbrev pub Welcomes : (ℕ → ℕ → ℕ) → (ℕ → ℕ) → ℕ → ℕ → Type 0
Welcomes band partner a b = (partner a ≡ 255) ⊎ (band a b ≤ band a (partner a))

-- The pair of a and b blocks: they list each other, are not paired together, and each welcomes the other.
pub record Blocks (band : ℕ → ℕ → ℕ) (partner : ℕ → ℕ) (a b : ℕ) : Type 0 where
  pub lists : 0 < band a b
  pub listed : 0 < band b a
  pub apart : partner a ≢ b
  pub wants : Welcomes band partner a b
  pub wanted : Welcomes band partner b a

-- a is paired, and strictly prefers its partner to b
abbrev pub Prefers : ℕ → (ℕ → ℕ → ℕ) → (ℕ → ℕ) → ℕ → ℕ → Type 0
Prefers n band partner a b = (partner a < n) × (band a (partner a) < band a b)

-- Of any two joints that list each other and are not paired together, one is paired and strictly prefers its partner.
pub record SuperStable (n : ℕ) (band : ℕ → ℕ → ℕ) (partner : ℕ → ℕ) : Type 0 where
  pub matching : Matching n band partner
  pub unblocked : (a b : ℕ) → a < n → b < n → 0 < band a b → 0 < band b a
      → (partner a ≡ b) ⊎ (Prefers n band partner a b ⊎ Prefers n band partner b a)

-- The lowest number of a blocking pair.
pub record LowestBlocking (n : ℕ) (band : ℕ → ℕ → ℕ) (partner : ℕ → ℕ) (number : ℕ) : Type 0 where
  pub lower : ℕ
  pub higher : ℕ
  pub below : lower < higher
  pub joint : higher < n
  pub blocking : Blocks band partner lower higher
  pub numbered : number ≡ pair_number lower higher
  pub lowest : (a b : ℕ) → a < b → b < n → Blocks band partner a b → number ≤ pair_number a b
