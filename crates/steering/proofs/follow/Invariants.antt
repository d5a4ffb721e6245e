-- What the records left do to the working and its marks is what all of them do to the first; each turn follows one of them.
use mathlib.Core.Path.{◌≡◌}
use lib.ListN.{drop}
use Rattle.records.specs.Records.{marked, unmarked}
use Rattle.stages.specs.Workings.{work_of}
use Rattle.acting.specs.Marks.{marked_at, AllLawful}
use Rattle.steering.specs.Ends.{followed}
use Rattle.steering.proofs.follow.Given as goal

abbrev pub invariant-loop-record : goal.invariant-loop-record
invariant-loop-record l =
    AllLawful l.working l.marks
    × ((l.working.task ≡ l.initial.working.task)
    × (followed l.working (marked_at l.working l.marks) (drop l.record-index l.records)
    ≡ followed l.initial.working (marked (work_of l.initial.working) unmarked) l.records))
