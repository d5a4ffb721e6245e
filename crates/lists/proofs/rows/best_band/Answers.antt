-- A list's best band, a minimum.
use Rattle.std.proofs.Common.{rules, tests, ◌≡◌, sym, ◌∙◌, ap, ltb, take, arith}
use Rattle.std.specs.List.{reduce, filter}
use Rattle.std.specs.Option.{unwrap_or}
use Rattle.std.specs.Prelude.{min}
use Rattle.std.proofs.lemmas.Iterator.{YieldsList-from_slice}
use Rattle.std.proofs.lemmas.Iterator.Adapters.{option_map_id}
use Rattle.std.proofs.lemmas.Iterator.Consumers.{YieldsList-from_copied, YieldsList-from_filter, min_from_yields_List}
use Rattle.lists.proofs.LawsLists.{best_taken}
use Rattle.lists.proofs.rows.best_band.Goals as goal

pub returns : goal.returns
returns c =
    let n = c.args.n.count in
    let l = c.args.row.now in
    let low : c.min.result ≡ reduce min (filter (λ b. ltb 0 b) (take n l)) =
    sym (option_map_id _) ∙ min_from_yields_List _ _ c.min.ensures.ran
    (YieldsList-from_filter _ _ (YieldsList-from_copied (YieldsList-from_slice (take n l) cc)) c.filter.ensures.closure (λ x r q k. search (rules, tests))) in
    c.unwrap_or.ensures ∙ ap (λ (r : _). unwrap_or r 0) low ∙ best_taken n l (omega arith)
