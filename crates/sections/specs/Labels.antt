-- The labels' section: n labels of 16 bytes. Refusals 1 and 3.
use Rattle.std.specs.Prelude.{Bool, true, false, ◌&&◌, ◌||◌, not, cond, List, [], ◌∷◌, ℕ, suc, ◌+◌, ◌*◌, eqb, ltb, leb, length, take, drop}
use Rattle.base.specs.Below.{any_below}
use Rattle.base.specs.Faults.{when, first_fault}

abbrev pub label_width : ℕ
label_width = 16

-- label i where the labels begin at a place; of the labels' part
abbrev pub label_at : List ℕ → ℕ → ℕ → List ℕ
label_at s labels i = take label_width (drop (labels + label_width * i) s)

abbrev pub label_in : List ℕ → ℕ → List ℕ
label_in part = label_at part 0

-- A label: one or more bytes from 33 to 126, then zero bytes to the end.
abbrev pub visible : ℕ → Bool
visible b = leb 33 b && leb b 126

-- how many visible bytes a label begins with
unfoldable pub visible_run : List ℕ → ℕ
visible_run [] = 0
visible_run (b ∷ l) = cond (visible b) (suc (visible_run l)) 0

unfoldable pub all_zero : List ℕ → Bool
all_zero [] = true
all_zero (b ∷ l) = eqb b 0 && all_zero l

unfoldable pub label_ok : List ℕ → Bool
label_ok l = leb 1 (visible_run l) && all_zero (drop (visible_run l) l)

unfoldable pub same_bytes : List ℕ → List ℕ → Bool
same_bytes [] [] = true
same_bytes [] (y ∷ ys) = false
same_bytes (x ∷ xs) [] = false
same_bytes (x ∷ xs) (y ∷ ys) = eqb x y && same_bytes xs ys

-- does label i repeat label j?
unfoldable pub repeats : List ℕ → ℕ → ℕ → Bool
repeats part i j = same_bytes (label_in part i) (label_in part j)

-- label i breaks its rule, or repeats an earlier one
unfoldable pub label_bad : List ℕ → ℕ → Bool
label_bad part i = not (label_ok (label_in part i)) || any_below i (repeats part i)

-- the section with its count n: 1, it is cut short; 3, label by label
unfoldable pub labels_fault : ℕ → List ℕ → ℕ
labels_fault n part = first_fault (when (ltb (length part) (label_width * n)) 1 ∷ when (any_below n (label_bad part)) 3 ∷ [])
