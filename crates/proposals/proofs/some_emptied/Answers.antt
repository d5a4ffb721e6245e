-- Whether some joint received and has an empty list.
use Rattle.std.proofs.Common.{rules}
use Rattle.std.proofs.iter.runs.Sources.{ranges}
use Rattle.base.proofs.Chains.{any_told}
use Rattle.roommates.specs.PhaseOne.{some_emptied, work, is_emptied}
use Rattle.proposals.proofs.some_emptied.Goals as goal

pub returns : goal.returns
unfolding some_emptied
returns c = λ s reach aside m k.
    let n = c.args.n.count in
    any_told n (λ a. is_emptied n (work s c.args.bands.now reach c.args.received.now aside m k) a) c.any.result (search (rules, ranges)) (search (rules, ranges))
