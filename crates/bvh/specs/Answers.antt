-- What the call import answers for every text s and buffer, with document 02's numbers, and what it leaves in the buffer.
use Rattle.std.specs.Prelude.{List, [], ◌∷◌, ℕ, zero, suc, ltb, length, Result}
use Rattle.base.specs.Faults.{when, first_fault}
use Rattle.refusals.specs.declared.Refusal.{Refusal}
use Rattle.refusals.specs.Numbers.{answered}
use Rattle.writing.specs.Written.{over}
use Rattle.hierarchy.specs.Hierarchy.{hierarchy, joints_met, met_fault}
use Rattle.bvh.specs.Written.{sheet_for}

-- the sheet of the joints that a text names
abbrev pub sheet_in : List ℕ → List ℕ
sheet_in s = sheet_for (joints_met (hierarchy s))

-- 2, 19 and 20 as met; then 9, the sheet is longer than the buffer
abbrev pub import_faults : List ℕ → ℕ → List ℕ
import_faults s room = met_fault (hierarchy s) ∷ when (ltb room (length (sheet_in s))) 9 ∷ []

abbrev pub import_fault : List ℕ → ℕ → ℕ
import_fault s room = first_fault (import_faults s room)

-- by the first of its refusals, 0 for none: the sheet's length, and the sheet at the buffer's beginning; a refusal leaves the buffer as it was
abbrev pub written_as : ℕ → List ℕ → List ℕ → List ℕ
written_as zero sheet out = over sheet out
written_as (suc k) sheet out = out

abbrev pub import_of : List ℕ → ℕ → Result ℕ Refusal
import_of s room = answered (import_fault s room) (length (sheet_in s))

abbrev pub import_into : List ℕ → List ℕ → List ℕ
import_into s out = written_as (import_fault s (length out)) (sheet_in s) out
