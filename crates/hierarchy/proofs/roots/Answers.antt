use Rattle.std.proofs.Common.{◌≡◌, Err, sym, rules}
use Rattle.hierarchy.proofs.Going.{begun}
use Rattle.hierarchy.proofs.RootLaws.{roots_refused, roots_ended, roots_on}
use Rattle.hierarchy.proofs.roots.Goals as goal

pub loop-rest-init : goal.loop-rest-init
loop-rest-init c = begun _ _ _ c.args.joints.now.good

pub returns-in_err-rest : goal.returns-in_err-rest
returns-in_err-rest c =
    let passed : c.from_residual.result ≡ Err c.in_err-rest.field-0.0 = search rules in
    rw passed (roots_refused c.loop-rest.invariant c.root.new.joints.list.items _ c.in_err-rest.ensures.answered)

pub returns-then-ends : goal.returns-then-ends
returns-then-ends c = roots_ended c.loop-rest.invariant _ c.in_ok-rest.rest c.in_ok-rest.ensures.answered (sym c.if-ends.ensures)

pub loop-rest-preserved : goal.loop-rest-preserved
loop-rest-preserved c =
    roots_on c.loop-rest.invariant _ c.in_ok-rest.rest c.in_ok-rest.ensures.answered c.root.new.joints.good c.in_ok-rest.ensures.shorter (sym c.if-ends.ensures)
