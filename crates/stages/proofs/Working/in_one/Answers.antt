-- Phase one goes on or ends.
use Rattle.base.proofs.FirstBelow.{first_found}
use Rattle.stages.proofs.LawsStages.{one_ends, one_goes_on}
use Rattle.stages.proofs.Working.in_one.Goals as goal

pub returns-in-None : goal.returns-in-None
returns-in-None c = one_ends c.args.self.now _ (rw c.in-None.is at (first_found _ _ c.lowest_waiting.ensures)) c.end_one.ensures

pub returns-in-Some : goal.returns-in-Some
returns-in-Some c = one_goes_on c.args.self.now _ (rw c.in-Some.is at (first_found _ _ c.lowest_waiting.ensures)) c.requires c.stand.ensures
