-- The entries of a sheet that are left where pairs are struck, and the sheet that has them as its rankings.
use Rattle.std.specs.Prelude.{◌≡◌, List, [], ◌∷◌, ◌++◌, ◌⊎◌, ℕ, ◌/◌, ◌%◌, ◌<◌, ltb, length, take}
use Rattle.sections.specs.declared.Entry.{Entry}
use Rattle.square.specs.Mutual.{only, mutual_entries}
use Rattle.sheet.specs.Format.{joints, count_start, rank_end, entries_of, third}
use Rattle.sheet.specs.Square.{at}
use Rattle.roommates.specs.Lists.{Square, row}
use Rattle.roommates.specs.Left.{list_bytes}

-- u is t with some pairs struck: a place is as it was, or both places of its pair are 0.
pub record PairsStruck (t u : Square) : Type 0 where
  pub rows : length u ≡ 128
  pub row_length : (a : ℕ) → a < 128 → length (row u a) ≡ 128
  pub places : (a b : ℕ) → (at u a b ≡ at t a b) ⊎ ((at u a b ≡ 0) × (at u b a ≡ 0))

-- those of the entries whose pairs are not struck, in their order
abbrev pub left : Square → List Entry → List Entry
left u es = only (λ a b. ltb 0 (at u a b)) es

-- entries as a sheet has them, three bytes each: joint, candidate, band
unfoldable pub bytes_of : List Entry → List ℕ
bytes_of [] = []
bytes_of (e ∷ es) = e.joint ∷ (e.other ∷ (e.band ∷ bytes_of es))

-- a count, two bytes, low byte first
abbrev pub count_bytes : ℕ → List ℕ
count_bytes k = (k % 256) ∷ ((k / 256) ∷ [])

-- the sheet s with the lists u as its rankings: its joints and labels, then what shorten writes, then a third section or nothing
unfoldable pub relisted : List ℕ → Square → List ℕ → List ℕ
relisted s u third = take (count_start s) s ++ (list_bytes (joints s) u ++ third)

-- the sheet s with other entries as its rankings, and a third section or nothing; and with its mutual listings alone, so without its one-sided
-- entries, and its own third section
unfoldable pub ranked : List ℕ → List Entry → List ℕ → List ℕ
ranked s es third = take (count_start s) s ++ (count_bytes (length es) ++ (bytes_of es ++ third))

abbrev pub without : List ℕ → List ℕ
without s = ranked s (mutual_entries (entries_of s)) (third s)

-- the sheet s up to its rankings' end, and another third section or nothing
unfoldable pub with_third : List ℕ → List ℕ → List ℕ
with_third s third = take (rank_end s) s ++ third
