-- In a matching a partner is a joint, so the index is in range.
use Rattle.std.proofs.Common.{◌<◌, arith}
use Rattle.matching.proofs.MatchingTest.{as_many, joint_some}
use Rattle.blocking.proofs.Matched.welcomes.Goals as goal

pub joint_in-requires : goal.joint_in-requires
joint_in-requires c = omega (arith, as_many _ _ _ c.args.self.now.matching)

pub bounds-bands-p : goal.bounds-bands-p
bounds-bands-p c =
    let s = c.args.self.now in
    let few = s.offered.joints.few in
    let joint : c.in-Some.p < s.offered.joints.count = joint_some _ _ _ s.matching _ c.requires.0 c.in-Some.ensures in
    omega arith
