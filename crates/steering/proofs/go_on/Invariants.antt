-- The rule's moves that are left take the working where all of them take the first; each turn makes one.
use mathlib.Core.Path.{◌≡◌}
use Prim.Native.Nat.{◌-◌}
use Rattle.roommates.specs.Moves.{turns}
use Rattle.stages.specs.Lawful.{Lawful}
use Rattle.steering.specs.Ends.{ended}
use Rattle.steering.proofs.go_on.Given as goal

abbrev pub invariant-loop : goal.invariant-loop
invariant-loop l =
    Lawful l.working × (ended (l.end - l.counter) l.working ≡ ended (turns l.initial.working.task.joints.count) l.initial.working)
