-- A block and its children call each other: the bytes left to read fall, and so do the levels that may still nest.
use Rattle.std.proofs.Common.{◌+◌, length}
use Rattle.hierarchy.specs.Hierarchy.{children}
use Rattle.hierarchy.specs.Gathered.{gathered}
use Rattle.hierarchy.proofs.Going.{Going}
use Rattle.hierarchy.proofs.blocks.+block_children.Given as goal

abbrev pub decreases-block : goal.decreases-block
decreases-block l = length l.text.now + l.deeper

abbrev pub decreases-children : goal.decreases-children
decreases-children l = length l.text.now + l.deeper

abbrev pub invariant-children-loop-word : goal.invariant-children-loop-word
invariant-children-loop-word l = Going (λ f. children f l.deeper l.own) l.text (gathered l.initial.joints.list.items) l.rest l.joints.list.items

abbrev pub decreases-children-loop-word : goal.decreases-children-loop-word
decreases-children-loop-word l = length l.rest
