use Rattle.std.proofs.Common.{rules}
use Rattle.std.proofs.iter.runs.Sources.{ranges}
use Rattle.base.proofs.Chains.{first_told}
use Rattle.blocking.specs.Blocking.{is_apart, blocks, blocker}
use Rattle.blocking.proofs.Matched.blocker.Goals as goal

pub returns : goal.returns
unfolding blocker blocks is_apart
returns c =
    let s = c.args.self.now.offered in
    let b = c.args.b in
    first_told b (λ j. blocks s.bands.now s.pairing.now j b) c.find.result
    (search (rules, ranges)) (search (rules, ranges)) (search (rules, ranges)) (search (rules, ranges))
