-- The one joint on a list.
use Rattle.std.proofs.Common.{rules, ◌≡◌}
use Rattle.std.proofs.iter.runs.Sources.{ranges}
use Rattle.base.specs.Below.{first_below}
use Rattle.base.proofs.Chains.{first_told}
use Rattle.roommates.specs.Lists.{is_listed}
use Rattle.results.proofs.LawsResults.{partner_told}
use Rattle.results.proofs.partner_on.Goals as goal
use Rattle.results.proofs.partner_on.Goals.{After-find}

found : (c : After-find) → c.find.result ≡ first_below c.args.n.count (is_listed c.args.row.now)
found c =
    first_told c.args.n.count (is_listed c.args.row.now) c.find.result
    (search (rules, ranges)) (search (rules, ranges)) (search (rules, ranges)) (search (rules, ranges))

pub returns : goal.returns
returns c = partner_told c.args.n.count c.args.row.now (found (goal.at.returns c).After-find) _ c.map_or.ensures (λ b post. search rules)
