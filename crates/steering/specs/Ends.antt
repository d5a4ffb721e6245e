-- What the loops go by.
use Rattle.std.specs.Prelude.{List, [], ◌∷◌, ℕ, get_or}
use Rattle.records.specs.declared.Record.{Record}
use Rattle.roommates.specs.PhaseOne.{Work}
use Rattle.roommates.specs.Moves.{Outcome, concluded}
use Rattle.records.specs.Records.{record_of, Marked, follows}
use Rattle.stages.specs.declared.Working.{Working}
use Rattle.stages.specs.Workings.{work_of}

-- the records of pairs of bytes
unfoldable pub records_in : List (List ℕ) → List Record
records_in [] = []
records_in (r ∷ rs) = record_of (get_or r 0 0) (get_or r 1 0) ∷ records_in rs

-- what becomes of a working's task: by the rule's moves, f of them, and by records from s on
abbrev pub ended : ℕ → Working → Work
ended f g = concluded f g.task.whole g.task.joints.count (work_of g)

abbrev pub followed : Working → Marked → List (List ℕ) → Outcome
followed g s records = follows g.task.whole g.task.joints.count s (records_in records)
