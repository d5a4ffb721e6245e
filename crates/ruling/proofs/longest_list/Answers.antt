-- The joint with the longest list.
use Rattle.std.proofs.Common.{rules, refl, ◌∙◌, ℕ, arith}
use Rattle.std.proofs.lemmas.Iterator.{YieldsList-from_range}
use Rattle.roommates.specs.Lists.{row, list_length}
use Rattle.roommates.specs.PhaseTwo.{longest_list}
use Rattle.ruling.proofs.LastGreatest.{last_greatest}
use Rattle.ruling.proofs.longest_list.Goals as goal

pub returns : goal.returns
unfolding longest_list
returns c =
    let n = c.args.n.count in
    let key : ℕ → ℕ = λ x. list_length n (row c.args.bands.now x) in
    c.unwrap_or.ensures
    ∙ last_greatest _ _ key (λ x k q h. search rules) _ n c.max_by_key.result c.max_by_key.ensures.ran (YieldsList-from_range 0 n n refl (omega arith))
