use Rattle.std.proofs.Common.{rules}
use mathlib.Core.Path.{◌≡◌, sym, ◌∙◌}
use native.Mathlib.Omega.{arith}
use Rattle.base.proofs.CountBelow.{count_zero, count_hit, count_miss}
use Rattle.lists.proofs.strikes.standing_at.Goals as goal
use Rattle.lists.proofs.strikes.standing_at.Goals.{else-stands_in, then-stands_in}

pub loop-p-init : goal.loop-p-init
loop-p-init c = record { few = omega arith; counted = sym (count_zero _) }

pub loop-p-preserved : goal.loop-p-preserved
loop-p-preserved c =
    let inv = c.loop-p.invariant in
    (elim c.if-stands_in.branch [
      | then-stands_in w ↦ record {
        few = omega (arith, w.count-is, inv.few);
        counted = w.count-is ∙ count_hit _ _ inv.counted (sym c.stands_in.ensures ∙ w.if-stands_in.true);
      }
      | else-stands_in w ↦ record {
        few = omega (arith, w.count-is, inv.few);
        counted = w.count-is ∙ count_miss _ _ inv.counted (sym c.stands_in.ensures ∙ w.if-stands_in.false);
      }
    ])

pub returns : goal.returns
returns c =
    let e : c.loop-p.p ≡ c.args.n.count = omega arith in
    let same : c.from.result ≡ c.loop-p.count = search rules in
    same ∙ (rw e at c.loop-p.invariant.counted)
