-- A choice, by what it says.
use Rattle.moves.proofs.LawsLawful.{roomy}
use Rattle.acting.proofs.LawsActing.{step_acts, step_lawful, saves_acts, saves_lawful, restores_acts, restores_task, restores_lawful}
use Rattle.acting.proofs.choose.Goals as goal

pub make_move-requires : goal.make_move-requires
make_move-requires c = roomy c.requires.lawful

pub returns-in-Step-clause-acts : goal.returns-in-Step-clause-acts
returns-in-Step-clause-acts c = rw (c.in-Step.is, ← c.from.ensures) (step_acts _ _ _ _ _ c.make_move.ensures)

pub returns-in-Step-clause-lawful : goal.returns-in-Step-clause-lawful
returns-in-Step-clause-lawful c = step_lawful _ _ _ _ _ c.make_move.ensures c.requires

pub returns-in-Set-clause-acts : goal.returns-in-Set-clause-acts
returns-in-Set-clause-acts c = rw (c.in-Set.is, ← c.from-in-Set.ensures) (saves_acts _ _ _ _ _ c.save.ensures c.requires.eight)

pub returns-in-Set-clause-lawful : goal.returns-in-Set-clause-lawful
returns-in-Set-clause-lawful c = saves_lawful _ _ _ _ _ c.save.ensures c.requires

pub returns-in-Return-clause-acts : goal.returns-in-Return-clause-acts
returns-in-Return-clause-acts c = rw (c.in-Return.is, ← c.from-in-Return.ensures) (restores_acts _ _ _ _ _ c.restore.ensures)

pub returns-in-Return-clause-task : goal.returns-in-Return-clause-task
returns-in-Return-clause-task c = restores_task _ _ _ _ _ c.restore.ensures c.requires

pub returns-in-Return-clause-lawful : goal.returns-in-Return-clause-lawful
returns-in-Return-clause-lawful c = restores_lawful _ _ _ _ _ c.restore.ensures c.requires
