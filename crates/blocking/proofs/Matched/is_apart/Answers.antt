use Rattle.std.proofs.Common.{arith}
use Rattle.matching.proofs.MatchingTest.{as_many}
use Rattle.blocking.proofs.Matched.is_apart.Goals as goal

pub joint_in-requires : goal.joint_in-requires
joint_in-requires c = omega (arith, as_many _ _ _ c.args.self.now.matching)
