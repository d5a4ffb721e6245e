-- A move in phase one.
use Prim.Native.Nat.{◌<◌}
use native.Mathlib.Omega.{arith}
use borrow.Author.Tests.{ltb-true}
use Rattle.base.proofs.Tests.{said_yes, said_no, and_true}
use Rattle.moves.proofs.LawsMoves.{refused_one, moved_one}
use Rattle.moves.proofs.move_one.Goals as goal

pub returns-then-not-may_step : goal.returns-then-not-may_step
returns-then-not-may_step c = refused_one _ c.args.working.now c.args.working.now c.requires.1 (said_no c.may_step.ensures c.if-not-may_step.true)

pub step-requires : goal.step-requires
step-requires c =
    let g = c.args.working.now in
    let inside : c.args.x < g.task.joints.count = ltb-true _ _ (and_true _ _ (said_yes c.may_step.ensures c.if-not-may_step.false)).0 in
    (omega (arith, g.task.joints.few, inside), omega (arith, c.requires.0))

pub returns : goal.returns
returns c = moved_one _ c.args.working.now _ c.requires.1 (said_yes c.may_step.ensures c.if-not-may_step.false) (c.step.ensures _ _ _) c.in_one.ensures
