use mathlib.Core.Path.{refl, ◌∙◌}
use Rattle.roommates.specs.PhaseTwo.{aside_below}
use Rattle.cuts.proofs.LawsCuts.{aside_hit, aside_miss}
use Rattle.cuts.proofs.set_aside.Goals as goal
use Rattle.cuts.proofs.set_aside.Goals.{else-list_length-eq0, then-list_length-eq0}

pub loop-i-init : goal.loop-i-init
unfolding aside_below
loop-i-init c = refl

pub loop-i-preserved : goal.loop-i-preserved
loop-i-preserved c = (elim c.if-list_length-eq0.branch [
  | then-list_length-eq0 w ↦ w.aside-is ∙ aside_hit _ _ _ c.loop-i.invariant c.list_length.ensures w.if-list_length-eq0.true
  | else-list_length-eq0 w ↦ w.aside-is ∙ aside_miss _ _ _ c.loop-i.invariant c.list_length.ensures w.if-list_length-eq0.false
])
