use Rattle.std.proofs.Common.{length, rules}
use Rattle.std.proofs.iter.runs.Sources.{ranges}
use Rattle.base.proofs.Chains.{first_told}
use Rattle.skeleton.specs.Following.{is_stray}
use Rattle.skeleton.proofs.posed.Posed.lowest_stray.Goals as goal

pub returns : goal.returns
unfolding is_stray
returns c =
    let s = c.args.self.now in
    first_told (length s.pairing.now) (is_stray s.parents.now s.pairing.now) c.find.result
    (search (rules, ranges)) (search (rules, ranges)) (search (rules, ranges)) (search (rules, ranges))
