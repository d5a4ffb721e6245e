-- Mutual listings. Lists are cut off at a distance, so a joint may list one that does not list it (document 02, item 1): such an entry is
-- struck before phase one, and counts as unlisted everywhere.
use Rattle.std.specs.Prelude.{Bool, cond, List, [], ◌∷◌, ℕ, ltb, length}
use Rattle.sections.specs.declared.Entry.{Entry}
use Rattle.sections.specs.Entries.{band_in}

-- those of the entries whose joint and candidate pass a test, in their order
unfoldable pub only : (ℕ → ℕ → Bool) → List Entry → List Entry
only test [] = []
only test (e ∷ es) = cond (test e.joint e.other) (e ∷ only test es) (only test es)

-- a's entry for b is returned: b's entries have a
abbrev pub returned : List Entry → ℕ → ℕ → Bool
returned es a b = ltb 0 (band_in es b a)

-- the mutual listings
abbrev pub mutual_entries : List Entry → List Entry
mutual_entries es = only (returned es) es

-- how many listed pairs there are: two joints that list each other, counted once, at the entry of the higher
abbrev pub listed_pairs : List Entry → ℕ
listed_pairs es = length (only (λ a b. ltb b a) (mutual_entries es))

-- What a place of the square should hold, said of the entries alone: the band of b on a's entries if b's entries have a, else 0.
abbrev pub mutual_band : List Entry → ℕ → ℕ → ℕ
mutual_band es a b = cond (ltb 0 (band_in es b a)) (band_in es a b) 0
