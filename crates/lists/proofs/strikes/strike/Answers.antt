use Rattle.std.proofs.Common.{refl, sym, ◌∙◌}
use Rattle.roommates.specs.Lists.{strike_if}
use Rattle.lists.proofs.LawsStrikes.{strike_hit, strike_miss}
use Rattle.lists.proofs.strikes.strike.Goals as goal
use Rattle.lists.proofs.strikes.strike.Goals.{else-hit, then-hit}

pub loop-i-init : goal.loop-i-init
unfolding strike_if
loop-i-init g c = λ test told. refl

pub loop-i-preserved : goal.loop-i-preserved
loop-i-preserved g c = λ test told.
    let so = told _ _ c.hit.ensures in
    (elim c.if-hit.branch [
      | then-hit w ↦ w.bands-is ∙ w.strike_pair.ensures ∙ strike_hit _ _ _ _ (c.loop-i.invariant test told) (sym so ∙ w.if-hit.true)
      | else-hit w ↦ w.bands-is ∙ strike_miss _ _ _ _ (c.loop-i.invariant test told) (sym so ∙ w.if-hit.false)
    ])
