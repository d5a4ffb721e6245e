-- Refusals 1 to 6, 8 and 18, in the order of documents 01 and 02. A fault is the number of a refusal, 0 for none.
use Rattle.std.specs.Prelude.{List, [], ◌∷◌, ℕ, eqb, ltb, length, take}
use Rattle.base.specs.Faults.{when, first_fault}
use Rattle.sections.specs.Labels.{labels_fault}
use Rattle.sections.specs.Entries.{entries_fault}
use Rattle.parents.specs.Parents.{extent_fault, parents_fault}
use Rattle.sheet.specs.Format.{joints, labels_part, rank_count, rank_start, rankings_part, rank_end, third}

-- Extents first, then contents.
unfoldable pub sheet_faults : List ℕ → List ℕ
sheet_faults s =
    -- no count of joints
    when (eqb (length s) 0) 1
    -- too many joints
    ∷ when (ltb 128 (joints s)) 2
    -- 1, labels cut short; 3, a label that breaks its rule or repeats an earlier one
    ∷ labels_fault (joints s) (labels_part s)
    -- no count of entries
    ∷ when (ltb (length s) (rank_start s)) 1
    -- entries cut short
    ∷ when (ltb (length s) (rank_end s)) 1
    -- 1, the third section cut short; 8, bytes after it
    ∷ extent_fault (third s)
    -- 4, 5, 6, entry by entry, whether or not it is returned
    ∷ entries_fault (rank_count s) (joints s) (rankings_part s)
    -- 18, a count of parents other than n, or a parent that is neither 255 nor lower
    ∷ parents_fault (joints s) (third s)
    ∷ []

unfoldable pub sheet_fault : List ℕ → ℕ
sheet_fault s = first_fault (sheet_faults s)

-- those that are found before an entry is looked at: the first six
unfoldable pub extents_fault : List ℕ → ℕ
extents_fault s = first_fault (take 6 (sheet_faults s))
