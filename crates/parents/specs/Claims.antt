-- What parents are, in document 02's words beside the tests that decide it.
use Rattle.std.specs.Prelude.{◌≡◌, List, [], ◌∷◌, ◌⊎◌, ◌≢◌, ◌↔◌, ℕ, ◌+◌, ◌≤◌, ◌<◌, length}
use Rattle.parents.specs.Parents.{parent_of, parents_in, extent_fault, parents_fault}
use Rattle.parents.specs.Depths.{depth_of}

-- every joint is a root, or has a lower joint as its parent
abbrev pub Lower : List ℕ → Type 0
Lower ps = (i : ℕ) → (parent_of ps i ≡ 255) ⊎ (parent_of ps i < i)

-- THE SECTION of n joints: there is none, or it has the count n, a parent for each joint, and nothing after them.
pub record OneEach (n : ℕ) (third : List ℕ) : Type 0 where
  pub counted : third ≡ n ∷ parents_in third
  pub whole : length (parents_in third) ≡ n
  pub lower : Lower (parents_in third)

abbrev pub IsSection : ℕ → List ℕ → Type 0
IsSection n third = (third ≡ []) ⊎ OneEach n third

-- what is without a fault is one, and what is one has no fault
abbrev pub SectionRule : Type 0
SectionRule = (n : ℕ) (third : List ℕ) → ((extent_fault third ≡ 0) × (parents_fault n third ≡ 0)) ↔ IsSection n third

-- THE DEPTH of a joint: nought at a root, else one more than its parent's; never above its number.
pub record DepthIs (ps : List ℕ) (i : ℕ) : Type 0 where
  pub at_root : parent_of ps i ≡ 255 → depth_of ps i ≡ 0
  pub below : parent_of ps i ≢ 255 → depth_of ps i ≡ depth_of ps (parent_of ps i) + 1
  pub at_most : depth_of ps i ≤ i

abbrev pub DepthRule : Type 0
DepthRule = (ps : List ℕ) → Lower ps → (i : ℕ) → DepthIs ps i
