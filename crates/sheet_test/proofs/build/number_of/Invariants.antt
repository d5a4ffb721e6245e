-- A digit is put behind what is below 100,000.
use Rattle.std.proofs.Common.{◌<◌}
use Rattle.sheet_test.proofs.build.number_of.Given as goal

abbrev pub invariant-loop-b : goal.invariant-loop-b
invariant-loop-b l = l.n < 1000000
