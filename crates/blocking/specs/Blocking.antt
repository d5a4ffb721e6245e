-- Blocking pairs and super-stability, over a sheet's n joints, its square of bands t and offered partner bytes m.
use Rattle.std.specs.Prelude.{Bool, true, false, cond, not, ◌&&◌, ◌||◌, List, Option, Some, None, ℕ, ltb, leb, eqb}
use Rattle.base.specs.Below.{lowest}
use Rattle.sheet.specs.Square.{at}
use Rattle.matching.specs.Matchings.{partner, is_alone, is_matching, pair_number}

-- a is unpaired, or has b in a band no worse than its partner's
unfoldable pub welcomes : List (List ℕ) → List ℕ → ℕ → ℕ → Bool
welcomes t m a b = is_alone m a || leb (at t a b) (at t a (partner m a))

-- a and b list each other and are not paired together
unfoldable pub is_apart : List (List ℕ) → List ℕ → ℕ → ℕ → Bool
is_apart t m a b = ltb 0 (at t a b) && (ltb 0 (at t b a) && not (eqb (partner m a) b))

unfoldable pub blocks : List (List ℕ) → List ℕ → ℕ → ℕ → Bool
blocks t m a b = is_apart t m a b && (welcomes t m a b && welcomes t m b a)

-- the lowest joint below b that blocks with b; b where none does
unfoldable pub blocker : List (List ℕ) → List ℕ → ℕ → ℕ
blocker t m b = lowest b (λ a. blocks t m a b)

-- .. if one does
abbrev pub first_blocker : List (List ℕ) → List ℕ → ℕ → Option ℕ
first_blocker t m b = cond (ltb (blocker t m b) b) (Some (blocker t m b)) None

-- the number of the pair of the two
abbrev pub pair_below : List (List ℕ) → List ℕ → ℕ → Option ℕ
pair_below t m b = cond (ltb (blocker t m b) b) (Some (pair_number (blocker t m b) b)) None

-- the number of the lowest blocking pair: its higher joint is the lowest that has a blocker
unfoldable pub blocking_pair : ℕ → List (List ℕ) → List ℕ → Option ℕ
blocking_pair n t m =
    let b = lowest n (λ b. ltb (blocker t m b) b) in
    cond (ltb b n) (Some (pair_number (blocker t m b) b)) None

abbrev pub is_none : Option ℕ → Bool
is_none None = true
is_none (Some k) = false

unfoldable pub is_super_stable : ℕ → List (List ℕ) → List ℕ → Bool
is_super_stable n t m = is_matching n t m && is_none (blocking_pair n t m)
