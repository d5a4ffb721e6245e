-- Which pairs follow the skeleton, over the parent bytes ps and the partner bytes m of as many joints (document 02, item 6).
use Rattle.std.specs.Prelude.{Bool, not, ◌&&◌, ◌||◌, List, ℕ, ltb, eqb, length}
use Rattle.base.specs.Below.{count_below, lowest}
use Rattle.parents.specs.Parents.{parent_of, is_root}
use Rattle.matching.specs.Matchings.{partner, pair_number}

-- both joints have a parent
abbrev pub have_parents : List ℕ → ℕ → ℕ → Bool
have_parents ps a b = not (is_root ps a) && not (is_root ps b)

-- A pair follows the skeleton when the two parents are paired together, or are one joint, or both joints are roots.
unfoldable pub follows : List ℕ → List ℕ → ℕ → ℕ → Bool
follows ps m a b =
    (have_parents ps a b && (eqb (partner m (parent_of ps a)) (parent_of ps b) || eqb (parent_of ps a) (parent_of ps b)))
    || (is_root ps a && is_root ps b)

-- b is the higher joint of a pair, and the pair does not follow
unfoldable pub is_stray : List ℕ → List ℕ → ℕ → Bool
is_stray ps m b = ltb (partner m b) b && not (follows ps m (partner m b) b)

-- how many pairs do not follow: each has one higher joint; and how many do
abbrev pub stray_count : List ℕ → List ℕ → ℕ
stray_count ps m = count_below (length m) (is_stray ps m)

abbrev pub follow_count : List ℕ → List ℕ → ℕ
follow_count ps m = count_below (length m) (λ b. ltb (partner m b) b && follows ps m (partner m b) b)

-- the lowest number among them: that of the pair with the lowest higher joint
abbrev pub lowest_stray : List ℕ → List ℕ → ℕ
lowest_stray ps m = lowest (length m) (is_stray ps m)

abbrev pub stray_number : List ℕ → List ℕ → ℕ
stray_number ps m = pair_number (partner m (lowest_stray ps m)) (lowest_stray ps m)
