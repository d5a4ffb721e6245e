-- The entries of all joints are counted.
use Rattle.std.proofs.Common.{rules, ◌≡◌, refl, ◌∙◌, take, arith}
use Rattle.std.specs.List.{sum_by}
use Rattle.std.proofs.lemmas.Iterator.{YieldsList-from_slice, YieldsList-from_map}
use Rattle.std.proofs.lemmas.Iterator.Consumers.{sum_by_from_yields_List, fits_by_from_yields_list}
use Rattle.roommates.specs.Lists.{list_length}
use Rattle.roommates.specs.Left.{entry_count}
use Rattle.results.proofs.LawsResults.{sum_taken, count_small}
use Rattle.results.proofs.count_entries.Goals as goal

pub sum-requires-clause-fits : goal.sum-requires-clause-fits
sum-requires-clause-fits c =
    let n = c.args.n.count in
    let t = c.args.bands.now in
    let small = count_small n t c.args.n.few refl in
    let counted : sum_by (list_length n) (take n t) ≡ entry_count n t = sum_taken n (list_length n) t (omega arith) in
    fits_by_from_yields_list (list_length n) (take n t) c.map.result _
    (YieldsList-from_map _ (list_length n) (YieldsList-from_slice (take n t) cc) c.map.ensures.closure (λ x r q k. search rules))
    (omega (arith, counted, small))

pub returns : goal.returns
returns c =
    let n = c.args.n.count in
    let t = c.args.bands.now in
    sum_by_from_yields_List (list_length n) (take n t) c.map.result c.sum.result c.sum.ensures.ran
    (YieldsList-from_map _ (list_length n) (YieldsList-from_slice (take n t) cc) c.map.ensures.closure (λ x r q k. search rules))
    ∙ sum_taken n (list_length n) t (omega arith)
