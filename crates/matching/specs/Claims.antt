-- What the tests, counts and numbers of Matchings.antt mean.
use Rattle.std.specs.Prelude.{◌≡◌, true, ◌↔◌, List, ℕ, ◌+◌, ◌*◌, ◌≤◌, ◌<◌, ltb, length}
use Rattle.base.specs.Below.{count_below}
use Rattle.sheet.specs.Square.{at, SquarePromise}
use Rattle.matching.specs.Matchings.{partner, is_matching, paired_joints, alone_count, pair_count, pair_number}
use Rattle.matching.specs.Plain.{Matching}

-- the test passes exactly the partner bytes, one for each joint, that are a matching
abbrev pub IsMatchingMeans : Type 0
IsMatchingMeans = (n : ℕ) (t : List (List ℕ)) (m : List ℕ) → is_matching n t m ≡ true ↔ (length m ≡ n) × Matching n (at t) (partner m)

-- every joint is paired or not; and a matching has two joints to a pair
abbrev pub PairedOrAlone : Type 0
PairedOrAlone = (m : List ℕ) → paired_joints m + alone_count m ≡ length m

abbrev pub TwoToAPair : Type 0
TwoToAPair = (n : ℕ) (t : List (List ℕ)) (m : List ℕ) → SquarePromise n t → is_matching n t m ≡ true → 2 * pair_count m ≡ paired_joints m

-- each pair has one higher joint: one whose partner is lower
abbrev pub OneHigher : Type 0
OneHigher = (n : ℕ) (t : List (List ℕ)) (m : List ℕ) → SquarePromise n t → is_matching n t m ≡ true
    → count_below n (λ b. ltb (partner m b) b) ≡ pair_count m

-- the numbers go up by one: from 0, along the pairs with one higher joint, and from the last of these to the first of the next
pub record PairNumberConsecutive : Type 0 where
  pub first : pair_number 0 1 ≡ 0
  pub along : (a b : ℕ) → pair_number (a + 1) b ≡ pair_number a b + 1
  pub onward : (b : ℕ) → pair_number 0 (b + 2) ≡ pair_number b (b + 1) + 1

-- of two pairs the one with the lower higher joint comes first; no two pairs share a number; 128 joints have 8,128 pairs
abbrev pub PairNumberRises : Type 0
PairNumberRises = (a b c d : ℕ) → a < b → b < d → pair_number a b < pair_number c d

abbrev pub PairNumberInjective : Type 0
PairNumberInjective = (a b c d : ℕ) → a < b → c < d → pair_number a b ≡ pair_number c d → (a ≡ c) × (b ≡ d)

abbrev pub PairNumberSmall : Type 0
PairNumberSmall = (a b : ℕ) → a < b → b < 128 → pair_number a b ≤ 8127
