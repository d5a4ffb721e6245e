use Rattle.std.proofs.Common.{rules}
use Rattle.std.proofs.iter.runs.Sources.{ranges}
use Rattle.blocking.proofs.LowestPair.{pair_run}
use Rattle.blocking.proofs.Matched.blocking_pair.Goals as goal

pub returns : goal.returns
returns c =
    let s = c.args.self.now.offered in
    let run = c.find_map.ensures.runs.0 in
    pair_run s.joints.count s.bands.now s.pairing.now run.at run.len c.find_map.result
    (search (rules, ranges)) (search (rules, ranges)) (search (rules, ranges)) (search (rules, ranges)) (search (rules, ranges))
