-- A working begins.
use Rattle.std.proofs.Common.{None}
use Rattle.stages.proofs.LawsStages.{begins}
use Rattle.stages.proofs.Working.begin.Goals as goal

pub returns-clause-ruled : goal.returns-clause-ruled
returns-clause-ruled c = c.in_one.ensures.1.1

pub returns-clause-lawful : goal.returns-clause-lawful
returns-clause-lawful c = λ promise. begins _ None _ _ c.in_one.new.self c.nothing_made.ensures promise c.in_one.ensures
