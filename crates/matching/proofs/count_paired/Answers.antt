use Rattle.std.proofs.Common.{◌≡◌, ◌∙◌, not, rules, count_by}
use lib.Dec.{eqb}
use Rattle.matching.specs.Matchings.{alone}
use Rattle.matching.proofs.PairCounts.{paired_by}
use Rattle.matching.proofs.count_paired.Goals as goal

pub returns : goal.returns
returns c =
    let m = c.args.pairing.now in
    let e : c.count.result ≡ count_by (λ p. not (eqb p alone)) m = search rules in
    e ∙ paired_by m
