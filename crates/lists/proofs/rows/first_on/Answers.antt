-- First on a list: the lowest joint of its best band.
use Rattle.std.proofs.Common.{rules, ◌≡◌, ◌∙◌, ap, Bool, ℕ, eqb, get_or}
use Rattle.std.proofs.iter.runs.Sources.{ranges}
use Rattle.std.specs.Option.{unwrap_or}
use Rattle.base.specs.Below.{first_below}
use Rattle.base.proofs.Chains.{first_told}
use Rattle.roommates.specs.Lists.{first_on}
use Rattle.lists.proofs.LawsFirst.{first_or_all}
use Rattle.lists.proofs.rows.first_on.Goals as goal

pub returns : goal.returns
unfolding first_on
returns c =
    let n = c.args.n.count in
    let test : ℕ → Bool = λ b. eqb (get_or c.args.row.now b 0) c.best_band-best.result in
    let found : c.find.result ≡ first_below n test = first_told n test c.find.result (search (rules, ranges)) (search (rules, ranges)) (search (rules, ranges)) (search (rules, ranges)) in
    rw (← c.best_band-best.ensures) (c.unwrap_or.ensures ∙ ap (λ (r : _). unwrap_or r n) found ∙ first_or_all n test)
