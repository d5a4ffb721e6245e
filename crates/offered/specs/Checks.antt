-- What the call check answers for every sheet s and offered pairing m.
use Rattle.std.specs.Prelude.{not, List, [], ◌∷◌, ℕ, Option, Result}
use Rattle.base.specs.Faults.{when, first_fault}
use Rattle.refusals.specs.declared.Refusal.{Refusal}
use Rattle.refusals.specs.Numbers.{answered}
use Rattle.sheet.specs.Format.{joints}
use Rattle.sheet.specs.Refusals.{sheet_fault}
use Rattle.sheet.specs.Square.{square_of}
use Rattle.matching.specs.Matchings.{is_matching}
use Rattle.blocking.specs.Blocking.{blocking_pair}

-- its refusals in their order: the sheet's own, then 10 for what is no matching
abbrev pub check_faults : List ℕ → List ℕ → List ℕ
check_faults s m = sheet_fault s ∷ (when (not (is_matching (joints s) (square_of s) m)) 10 ∷ [])

-- the first of them, or the lowest blocking pair's number, none where the pairing holds
abbrev pub check_of : List ℕ → List ℕ → Result (Option ℕ) Refusal
check_of s m = answered (first_fault (check_faults s m)) (blocking_pair (joints s) (square_of s) m)
