-- What shorten writes: "the remaining entries in sheet form, count first, bands as in the sheet"; and what other rankings, or other parents, make of
-- a sheet.
use Rattle.std.specs.Prelude.{◌≡◌, false, List, ◌++◌, ℕ, ◌<◌, length}
use Rattle.sections.specs.Entries.{band_in}
use Rattle.sections.specs.Claims.{Each}
use Rattle.square.specs.Mutual.{mutual_entries}
use Rattle.parents.specs.Claims.{IsSection}
use Rattle.sheet.specs.Format.{joints, rank_count, label_of, entries_of, third}
use Rattle.sheet.specs.Refusals.{sheet_fault}
use Rattle.sheet.specs.Square.{square_of}
use Rattle.roommates.specs.Lists.{Square}
use Rattle.roommates.specs.PhaseOne.{Work}
use Rattle.roommates.specs.Runs.{Arrived}
use Rattle.roommates.specs.Left.{entry_count, list_bytes}
use Rattle.relisting.specs.Written.{PairsStruck, left, bytes_of, count_bytes, relisted, without, with_third}

-- the lists of each of shorten's workings are the sheet's with some pairs struck, however it arrived
abbrev pub ShortenStrikes : Type 0
ShortenStrikes = (s : List ℕ) (w : Work) → sheet_fault s ≡ 0 → Arrived false (joints s) (square_of s) w → PairsStruck (square_of s) w.lists

-- The entries written are those of the sheet's entries whose pairs are not struck, with the sheet's bands and in the sheet's order, after their number.
abbrev pub WrittenEntries : Type 0
WrittenEntries = (s : List ℕ) (u : Square) → sheet_fault s ≡ 0 → PairsStruck (square_of s) u
    → list_bytes (joints s) u ≡ count_bytes (length (left u (entries_of s))) ++ bytes_of (left u (entries_of s))

-- All of them are returned: the sheet has an entry of their candidate for their joint.
abbrev pub WrittenReturned : Type 0
WrittenReturned = (s : List ℕ) (u : Square) → sheet_fault s ≡ 0 → PairsStruck (square_of s) u
    → Each (λ e. 0 < band_in (entries_of s) e.other e.joint) (left u (entries_of s))

-- A sheet r that is accepted, with the joints and the labels of s, with the lists u as its square, and with a third section.
pub record SheetWith (s : List ℕ) (u : Square) (parents : List ℕ) (r : List ℕ) : Type 0 where
  pub accepted : sheet_fault r ≡ 0
  pub same_joints : joints r ≡ joints s
  pub same_labels : (i : ℕ) → i < joints s → label_of r i ≡ label_of s i
  pub count_left : rank_count r ≡ entry_count (joints s) u
  pub entries_left : entries_of r ≡ left u (entries_of s)
  pub same_square : square_of r ≡ u
  pub third_is : third r ≡ parents

-- The sheet with the same labels and with shorten's bytes as its rankings is one, whether nothing follows them or parents for the joints.
abbrev pub ReadsBack : Type 0
ReadsBack = (s : List ℕ) (u : Square) (parents : List ℕ) → sheet_fault s ≡ 0 → PairsStruck (square_of s) u → IsSection (joints s) parents
    → SheetWith s u parents (relisted s u parents)

-- So is the sheet without its one-sided entries, with the same square and third section; its entries are the mutual listings.
abbrev pub WithoutSame : Type 0
WithoutSame = (s : List ℕ) → sheet_fault s ≡ 0
    → SheetWith s (square_of s) (third s) (without s) × (entries_of (without s) ≡ mutual_entries (entries_of s))

-- A sheet r that is accepted, with the joints, the labels and the rankings of s, and with a third section.
pub record SheetBut (s parents r : List ℕ) : Type 0 where
  pub accepted : sheet_fault r ≡ 0
  pub same_joints : joints r ≡ joints s
  pub same_labels : (i : ℕ) → i < joints s → label_of r i ≡ label_of s i
  pub same_entries : entries_of r ≡ entries_of s
  pub third_is : third r ≡ parents

-- Parents may be left out, put in or changed.
abbrev pub OtherParents : Type 0
OtherParents = (s parents : List ℕ) → sheet_fault s ≡ 0 → IsSection (joints s) parents → SheetBut s parents (with_third s parents)
