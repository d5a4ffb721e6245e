-- The parents' section, the third of a sheet, which may be left out (document 02, item 6): a count of one byte, which is n, then one parent
-- byte for each joint, 255 for a root, otherwise a lower joint number. Refusals 1, 8 and 18.
use Rattle.std.specs.Prelude.{Bool, not, ◌&&◌, ◌||◌, List, [], ◌∷◌, ℕ, eqb, ltb, leb, length, get_or, drop}
use Rattle.base.specs.Below.{any_below}
use Rattle.base.specs.Faults.{when, first_fault}
use Rattle.sections.specs.Joints.{no_joint}

-- the byte of a root
abbrev pub root : ℕ
root = no_joint

-- a joint's parent by the parent bytes; a joint without a byte has none
abbrev pub parent_of : List ℕ → ℕ → ℕ
parent_of ps i = get_or ps i root

abbrev pub is_root : List ℕ → ℕ → Bool
is_root ps i = eqb (parent_of ps i) root

-- neither 255 nor lower
abbrev pub bad_parent : List ℕ → ℕ → Bool
bad_parent ps i = not (is_root ps i) && leb i (parent_of ps i)

-- THE SECTION as it stands after the rankings, its count first: nothing where a sheet has none.
-- its extent: 1, fewer bytes than its count announces; 8, more
unfoldable pub extent_fault : List ℕ → ℕ
extent_fault [] = 0
extent_fault (count ∷ part) = first_fault (when (ltb (length part) count) 1 ∷ when (ltb count (length part)) 8 ∷ [])

-- 18: a count other than n, or a parent that is neither 255 nor lower
unfoldable pub counted_fault : ℕ → ℕ → List ℕ → ℕ
counted_fault n count part = when (not (eqb count n) || any_below count (bad_parent part)) 18

unfoldable pub parents_fault : ℕ → List ℕ → ℕ
parents_fault n [] = 0
parents_fault n (count ∷ part) = counted_fault n count part

-- is it there? the part after its count
abbrev pub is_there : List ℕ → Bool
is_there third = ltb 0 (length third)

abbrev pub parents_in : List ℕ → List ℕ
parents_in third = drop 1 third
