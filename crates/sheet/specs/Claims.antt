-- What reading promises of every sheet.
use Rattle.std.specs.Prelude.{◌≡◌, List, Ok, ◌⊎◌, ◌↔◌, ℕ, ◌+◌, ◌*◌, ◌-◌, ◌≤◌, ◌<◌, length, get_or, take}
use Rattle.base.specs.Claims.{First}
use Rattle.base.specs.Faults.{first_fault}
use Rattle.sections.specs.Entries.{entry_width, band_in}
use Rattle.sections.specs.Claims.{Sound, Each, Ascending}
use Rattle.square.specs.Mutual.{mutual_entries, mutual_band}
use Rattle.refusals.specs.Numbers.{RefusedAs}
use Rattle.parents.specs.Claims.{IsSection}
use Rattle.sheet.specs.Format.{joints, rank_count, entries_of, third}
use Rattle.sheet.specs.Refusals.{sheet_faults, sheet_fault}
use Rattle.sheet.specs.Square.{at, square_of, SquarePromise}
use Rattle.sheet.specs.Promise.{MutualListing, Promise}
use Rattle.sheet.specs.Readings.{parts_of, reading_of}

-- a sheet is refused with k exactly if k is the first of its faults, and accepted exactly if it has none
abbrev pub RefusedFirst : Type 0
RefusedFirst = (s : List ℕ) (k : ℕ) → RefusedAs (reading_of s) k ↔ First k (sheet_faults s)

abbrev pub AcceptedNone : Type 0
AcceptedNone = (s : List ℕ) → reading_of s ≡ Ok (parts_of s) ↔ ((i : ℕ) → get_or (sheet_faults s) i 0 ≡ 0)

-- the numbers that a sheet is refused with: 1 to 6, 8 and 18
abbrev pub OfSheet : ℕ → Type 0
OfSheet k = ((1 ≤ k) × (k ≤ 6)) ⊎ ((k ≡ 8) ⊎ (k ≡ 18))

abbrev pub SheetNumbers : Type 0
SheetNumbers = (s : List ℕ) → (sheet_fault s ≡ 0) ⊎ OfSheet (sheet_fault s)

-- 18 exactly if nothing that comes before is wrong, and the third section is neither left out nor one of n joints
abbrev pub ParentsRefused : Type 0
ParentsRefused = (s : List ℕ) → sheet_fault s ≡ 18 ↔ ((first_fault (take 7 (sheet_faults s)) ≡ 0) × (IsSection (joints s) (third s) → ⊥))

-- an accepted sheet's entries, returned or not, are in range and ascend
abbrev pub AcceptedEntries : Type 0
AcceptedEntries = (s : List ℕ) → sheet_fault s ≡ 0 → Each (Sound (joints s)) (entries_of s) × Ascending (entries_of s)

-- its mutual listings are mutual too; so says its square
abbrev pub AcceptedPromise : Type 0
AcceptedPromise = (s : List ℕ) → sheet_fault s ≡ 0 → Promise (joints s) (mutual_entries (entries_of s))

abbrev pub AcceptedSquare : Type 0
AcceptedSquare = (s : List ℕ) → sheet_fault s ≡ 0 → SquarePromise (joints s) (square_of s)

-- place (a, b) of the square is the band of b on a's entries if b's entries have a, else 0
abbrev pub SquareIsMutual : Type 0
SquareIsMutual = (s : List ℕ) → sheet_fault s ≡ 0 → (a b : ℕ) → at (square_of s) a b ≡ mutual_band (entries_of s) a b

-- and where every entry is returned, just the band of b on a's entries
abbrev pub SquareIsEntries : Type 0
SquareIsEntries = (s : List ℕ) → sheet_fault s ≡ 0 → MutualListing (entries_of s) → (a b : ℕ) → at (square_of s) a b ≡ band_in (entries_of s) a b

-- its third section is left out, or has a parent for each joint
abbrev pub AcceptedParents : Type 0
AcceptedParents = (s : List ℕ) → sheet_fault s ≡ 0 → IsSection (joints s) (third s)

-- the sizes that buffers are made for
pub record Sizes (s : List ℕ) : Type 0 where
  pub few_entries : rank_count s ≤ joints s * (joints s - 1)
  pub most_entries : rank_count s ≤ 128 * 127
  -- MIRROR_SHEET_BYTES: 1 + 16 × 128 + 2 + 3 × 128 × 127 + 1 + 128
  pub sheet_bytes : length s ≤ 50948
  -- MIRROR_LISTS_BYTES: 2 + 3 × 128 × 127
  pub lists_bytes : 2 + entry_width * rank_count s ≤ 48770

abbrev pub AcceptedSizes : Type 0
AcceptedSizes = (s : List ℕ) → sheet_fault s ≡ 0 → Sizes s

-- what is longer than the program reads is refused
abbrev pub LongRefused : Type 0
LongRefused = (s : List ℕ) → 65536 < length s → 1 ≤ sheet_fault s
