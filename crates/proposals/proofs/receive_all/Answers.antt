use mathlib.Core.Path.{refl, ◌∙◌}
use Rattle.roommates.specs.PhaseOne.{receive_all}
use Rattle.proposals.proofs.LawsProposals.{receive_hit, receive_miss}
use Rattle.proposals.proofs.receive_all.Goals as goal
use Rattle.proposals.proofs.receive_all.Goals.{else-list-i, then-list-i}

pub loop-i-init : goal.loop-i-init
unfolding receive_all
loop-i-init c = refl

pub loop-i-preserved : goal.loop-i-preserved
loop-i-preserved c = (elim c.if-list-i.branch [
  | then-list-i w ↦ w.received-is ∙ receive_hit _ _ _ _ c.loop-i.invariant w.if-list-i.true
  | else-list-i w ↦ w.received-is ∙ receive_miss _ _ _ _ c.loop-i.invariant w.if-list-i.false
])
