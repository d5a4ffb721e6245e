-- Each record met leaves fewer.
use Rattle.std.proofs.Common.{length}
use Rattle.replay.proofs.standing.Given as goal

abbrev pub decreases-loop-last : goal.decreases-loop-last
decreases-loop-last l = length l.rest
