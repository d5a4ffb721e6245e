-- The lowest joint that waits.
use Rattle.std.proofs.Common.{rules, get_or}
use Rattle.std.proofs.iter.runs.Sources.{ranges}
use Rattle.base.proofs.Chains.{first_told}
use Rattle.roommates.specs.Lists.{row}
use Rattle.roommates.specs.PhaseOne.{list_waits}
use Rattle.ruling.proofs.lowest_waiting.Goals as goal

pub returns : goal.returns
returns c =
    let n = c.args.n.count in
    first_told n (λ p. list_waits n (get_or c.args.reach.now p 0) (row c.args.bands.now p)) c.find.result
    (search (rules, ranges)) (search (rules, ranges)) (search (rules, ranges)) (search (rules, ranges))
