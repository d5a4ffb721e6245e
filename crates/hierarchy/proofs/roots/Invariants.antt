use lib.ListN.{length}
use Rattle.hierarchy.specs.Hierarchy.{roots}
use Rattle.hierarchy.specs.Gathered.{gathered}
use Rattle.hierarchy.proofs.Going.{Going}
use Rattle.hierarchy.proofs.roots.Given as goal

abbrev pub invariant-loop-rest : goal.invariant-loop-rest
invariant-loop-rest l = Going roots l.text (gathered l.initial.joints.list.items) l.rest l.joints.list.items

abbrev pub decreases-loop-rest : goal.decreases-loop-rest
decreases-loop-rest l = length l.rest
