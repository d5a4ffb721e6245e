-- What the tests of Blocking.antt mean.
use Rattle.std.specs.Prelude.{◌≡◌, true, ◌↔◌, List, Some, None, ℕ, ◌<◌, length}
use Rattle.sheet.specs.Square.{at, SquarePromise}
use Rattle.matching.specs.Matchings.{partner}
use Rattle.blocking.specs.Blocking.{blocks, blocking_pair, is_super_stable}
use Rattle.blocking.specs.Plain.{Blocks, SuperStable, LowestBlocking}

abbrev pub BlocksMeans : Type 0
BlocksMeans = (t : List (List ℕ)) (m : List ℕ) (a b : ℕ) → blocks t m a b ≡ true ↔ Blocks (at t) (partner m) a b

-- no number exactly if no pair blocks; else the lowest number of a pair that does
abbrev pub BlockingPairNone : Type 0
BlockingPairNone = (n : ℕ) (t : List (List ℕ)) (m : List ℕ)
    → blocking_pair n t m ≡ None ↔ ((a b : ℕ) → a < b → b < n → Blocks (at t) (partner m) a b → ⊥)

abbrev pub BlockingPairLowest : Type 0
BlockingPairLowest = (n : ℕ) (t : List (List ℕ)) (m : List ℕ) (k : ℕ) → blocking_pair n t m ≡ Some k ↔ LowestBlocking n (at t) (partner m) k

-- over an accepted sheet's square the test passes exactly the partner bytes, one for each joint, that are super-stable
abbrev pub IsSuperStableMeans : Type 0
IsSuperStableMeans = (n : ℕ) (t : List (List ℕ)) (m : List ℕ) → SquarePromise n t
    → is_super_stable n t m ≡ true ↔ (length m ≡ n) × SuperStable n (at t) (partner m)
