-- What the call follow answers for every sheet s and offered pairing m, with document 02's numbers.
use Rattle.std.specs.Prelude.{cond, not, List, [], ◌∷◌, ℕ, Option, Some, None, Result, Ok, eqb}
use Rattle.base.specs.Faults.{when, first_fault}
use Rattle.parents.specs.Parents.{is_there, parents_in}
use Rattle.sheet.specs.Format.{joints, third}
use Rattle.sheet.specs.Refusals.{sheet_fault}
use Rattle.sheet.specs.Square.{square_of}
use Rattle.matching.specs.Matchings.{is_matching}
use Rattle.refusals.specs.declared.Refusal.{Refusal}
use Rattle.refusals.specs.Numbers.{answered}
use Rattle.skeleton.specs.declared.Strays.{Strays}
use Rattle.skeleton.specs.Following.{stray_count, stray_number}

-- so many pairs do not follow, and the lowest of their numbers
abbrev pub astray_by : ℕ → ℕ → Strays
astray_by pairs lowest = record { pairs = pairs; lowest = lowest }

-- those that do not follow, none if all do
unfoldable pub followed : List ℕ → List ℕ → Option Strays
followed ps m = cond (eqb (stray_count ps m) 0) None (Some (astray_by (stray_count ps m) (stray_number ps m)))

-- over n joints' lists t and a third section: 18 for one that is left out, then 10 for what is no matching
abbrev pub own_faults : ℕ → List (List ℕ) → List ℕ → List ℕ → List ℕ
own_faults n t parents m = when (not (is_there parents)) 18 ∷ when (not (is_matching n t m)) 10 ∷ []

abbrev pub follow_lists : ℕ → List (List ℕ) → List ℕ → List ℕ → Result (Option Strays) Refusal
follow_lists n t parents m = answered (first_fault (own_faults n t parents m)) (followed (parents_in parents) m)

-- over a sheet, whose own refusals come first
abbrev pub follow_faults : List ℕ → List ℕ → List ℕ
follow_faults s m = sheet_fault s ∷ own_faults (joints s) (square_of s) (third s) m

abbrev pub follow_of : List ℕ → List ℕ → Result (Option Strays) Refusal
follow_of s m = answered (first_fault (follow_faults s m)) (followed (parents_in (third s)) m)

-- an answer in words: all pairs follow; so many do not; the number of a refusal
abbrev pub answer_all : Result (Option Strays) Refusal
answer_all = Ok None

abbrev pub answer_astray : ℕ → ℕ → Result (Option Strays) Refusal
answer_astray pairs lowest = Ok (Some (astray_by pairs lowest))
