-- One move; nothing moves an end.
use mathlib.Core.Path.{refl}
use Rattle.refusals.specs.declared.Refusal.TheVariants.{ChoiceLeftOver}
use Rattle.roommates.specs.declared.Stage.TheVariants.{NoneOne, NoneTwo, Paired}
use Rattle.moves.proofs.LawsMoves.{refused}
use Rattle.moves.proofs.make_move.Goals as goal

pub returns-in-NoneOne : goal.returns-in-NoneOne
returns-in-NoneOne c = refused _ c.args.working.now c.args.working.now NoneOne ChoiceLeftOver c.in-NoneOne.is refl

pub returns-in-NoneTwo : goal.returns-in-NoneTwo
returns-in-NoneTwo c = refused _ c.args.working.now c.args.working.now NoneTwo ChoiceLeftOver c.in-NoneTwo.is refl

pub returns-in-Paired : goal.returns-in-Paired
returns-in-Paired c = refused _ c.args.working.now c.args.working.now Paired ChoiceLeftOver c.in-Paired.is refl
