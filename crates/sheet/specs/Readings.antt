-- What reading a whole sheet answers.
use Rattle.std.specs.Prelude.{◌≡◌, cond, List, ℕ, Result, Ok, eqb}
use Rattle.refusals.specs.declared.Refusal.{Refusal}
use Rattle.refusals.specs.Numbers.{answered}
use Rattle.sheet.specs.declared.Parts.{Parts}
use Rattle.sheet.specs.declared.Sheet.{Sheet}
use Rattle.sheet.specs.Format.{joints, rank_count, labels_start, rank_start, rank_end}
use Rattle.sheet.specs.Refusals.{sheet_fault}
use Rattle.sheet.specs.Square.{square_of}

abbrev pub parts_of : List ℕ → Parts
parts_of s = record { joints = joints s; entries = rank_count s; labels = labels_start; rankings = rank_start s; parents = rank_end s }

-- its parts where there is no fault, else the refusal
abbrev pub reading_of : List ℕ → Result Parts Refusal
reading_of s = answered (sheet_fault s) (parts_of s)

-- a lent square after reading: that of an accepted sheet; a refused one leaves it as it was
unfoldable pub square_in : List ℕ → List (List ℕ) → List (List ℕ)
square_in s old = cond (eqb (sheet_fault s) 0) (square_of s) old

-- an accepted sheet, with its parts and its rankings
pub record ReadsAs (s : List ℕ) (read : Sheet) : Type 0 where
  pub accepted : reading_of s ≡ Ok read.parts
  pub joints_are : read.rankings.joints.count ≡ joints s
  pub square_is : read.rankings.bands ≡ square_of s
