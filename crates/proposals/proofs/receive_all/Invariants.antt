-- The joints of a band have received.
use mathlib.Core.Path.{◌≡◌}
use Rattle.roommates.specs.PhaseOne.{receive_all}
use Rattle.proposals.proofs.receive_all.Given as goal

abbrev pub invariant-loop-i : goal.invariant-loop-i
invariant-loop-i l = l.received ≡ receive_all l.i l.list l.k l.initial.received
