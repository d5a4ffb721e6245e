-- The lists that phase one leaves, from fresh ones.
use mathlib.Core.Path.{ap}
use Rattle.roommates.specs.declared.Stage.TheVariants.{Proposing}
use Rattle.roommates.specs.PhaseOne.{nobody}
use Rattle.proposals.proofs.run_out.Goals as goal

pub returns : goal.returns
returns c = rw c.nothing_made-made.ensures at (ap (λ w. w.lists) (c.run_on.ensures Proposing nobody 0))
