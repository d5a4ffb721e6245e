-- Whether no list is empty but those of joints set aside.
use Rattle.std.proofs.Common.{rules, ◌||◌, eqb, leb, get_or}
use Rattle.std.proofs.iter.runs.Sources.{ranges}
use Rattle.base.proofs.Chains.{all_told}
use Rattle.roommates.specs.Lists.{row, list_length}
use Rattle.roommates.specs.PhaseTwo.{none_emptied}
use Rattle.cuts.proofs.none_emptied.Goals as goal

pub returns : goal.returns
unfolding none_emptied
returns c =
    let n = c.args.n.count in
    all_told n (λ a. eqb (get_or c.args.aside.now a 0) 1 || leb 1 (list_length n (row c.args.bands.now a))) c.all.result (search (rules, ranges)) (search (rules, ranges))
