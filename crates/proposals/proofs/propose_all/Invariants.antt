-- A proposal to each joint of a band.
use mathlib.Core.Path.{◌≡◌}
use Rattle.roommates.specs.PhaseOne.{propose_all}
use Rattle.proposals.proofs.propose_all.Given as goal

abbrev pub invariant-loop-i : goal.invariant-loop-i
invariant-loop-i l = l.bands ≡ propose_all l.i l.n.count l.list l.k l.reach l.initial.bands l.p
