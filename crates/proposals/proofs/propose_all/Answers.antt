use mathlib.Core.Path.{refl, ◌∙◌}
use Rattle.roommates.specs.PhaseOne.{propose_all}
use Rattle.proposals.proofs.LawsProposals.{propose_hit, propose_miss}
use Rattle.proposals.proofs.propose_all.Goals as goal
use Rattle.proposals.proofs.propose_all.Goals.{else-list-i, then-list-i}

pub loop-i-init : goal.loop-i-init
unfolding propose_all
loop-i-init c = refl

pub loop-i-preserved : goal.loop-i-preserved
loop-i-preserved c = (elim c.if-list-i.branch [
  | then-list-i w ↦ w.bands-is ∙ w.propose.ensures ∙ propose_hit _ _ _ _ _ _ _ c.loop-i.invariant w.if-list-i.true
  | else-list-i w ↦ w.bands-is ∙ propose_miss _ _ _ _ _ _ _ c.loop-i.invariant w.if-list-i.false
])
