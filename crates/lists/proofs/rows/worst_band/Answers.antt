-- A list's worst band, a maximum.
use Rattle.std.proofs.Common.{◌≡◌, sym, ◌∙◌, ap, take, arith}
use Rattle.std.specs.List.{reduce}
use Rattle.std.specs.Option.{unwrap_or}
use Rattle.std.specs.Prelude.{max}
use Rattle.std.proofs.lemmas.Iterator.{YieldsList-from_slice}
use Rattle.std.proofs.lemmas.Iterator.Adapters.{option_map_id}
use Rattle.std.proofs.lemmas.Iterator.Consumers.{YieldsList-from_copied, max_from_yields_List}
use Rattle.lists.proofs.LawsLists.{worst_taken}
use Rattle.lists.proofs.rows.worst_band.Goals as goal

pub returns : goal.returns
returns c =
    let n = c.args.n.count in
    let l = c.args.row.now in
    let high : c.max.result ≡ reduce max (take n l) =
    sym (option_map_id _) ∙ max_from_yields_List _ _ c.max.ensures.ran (YieldsList-from_copied (YieldsList-from_slice (take n l) cc)) in
    c.unwrap_or.ensures ∙ ap (λ (r : _). unwrap_or r 0) high ∙ worst_taken n l (omega arith)
