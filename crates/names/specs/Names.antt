-- The names of joints, in order of appearance. Refusals 2 and 20, as names are met.
use Rattle.std.specs.Prelude.{Bool, not, ◌&&◌, ◌||◌, List, [], ◌∷◌, ℕ, eqb, leb, length, get_or, take}
use Rattle.base.specs.Below.{any_below}
use Rattle.base.specs.Faults.{when, first_fault, fault_below}
use Rattle.sections.specs.Labels.{label_width, visible_run, same_bytes}
use Rattle.words.specs.Words.{Words}

abbrev pub name_of : Words → ℕ → List ℕ
name_of names i = get_or names i []

-- can a word be a label? at most 16 bytes, each from 33 to 126
unfoldable pub is_name : List ℕ → Bool
is_name w = leb (length w) label_width && eqb (visible_run w) (length w)

-- is it one of these names?
abbrev pub is_named : Words → List ℕ → ℕ → Bool
is_named names w i = same_bytes (name_of names i) w

unfoldable pub is_known : Words → List ℕ → Bool
is_known names w = any_below (length names) (is_named names w)

unfoldable pub is_unfit : Words → List ℕ → Bool
is_unfit names w = not (is_name w) || is_known names w

-- a word that comes as a name after these: 2, there are 128 names already; 20, it cannot be a label or is one of them
unfoldable pub name_fault : Words → List ℕ → ℕ
name_fault names w = first_fault (when (leb 128 (length names)) 2 ∷ when (is_unfit names w) 20 ∷ [])

-- the first fault of names, each met after those before it
abbrev pub fault_at : Words → ℕ → ℕ
fault_at names i = name_fault (take i names) (name_of names i)

unfoldable pub names_fault : Words → ℕ
names_fault names = fault_below (length names) (fault_at names)
