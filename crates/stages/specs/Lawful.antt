-- A working that may go on.
use Rattle.sheet.specs.Square.{SquarePromise}
use Rattle.roommates.specs.Lists.{Square}
use Rattle.roommates.specs.Runs.{Arrived}
use Rattle.stages.specs.declared.Working.{Working}
use Rattle.stages.specs.Workings.{work_of, Ruled}

-- It came from lists that keep the reader's promise, so that its counts are small; and it knows the rule's joint. No invariant of the
-- type: a move changes the lists first and then the stage, and a working between the two is not lawful.
pub record Lawful (g : Working) : Type 0 where
  pub start : Square
  pub promise : SquarePromise g.task.joints.count start
  pub arrived : Arrived g.task.whole g.task.joints.count start (work_of g)
  pub knows : Ruled g
