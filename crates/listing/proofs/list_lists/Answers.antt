use Rattle.std.proofs.Common.{◌∙◌, sym, ap, Ok}
use Rattle.sections.specs.Labels.{label_at}
use Rattle.listing.proofs.SheetTexts.{text_refused, text_none, PairedLists, paired_lists}
use Rattle.listing.proofs.list_lists.Goals as goal
use Rattle.listing.proofs.list_lists.Goals.{In-Ok-Paired}

paired : (c : In-Ok-Paired)
    → PairedLists (label_at c.args.opened.bytes.now c.args.opened.labels) c.args.rankings.now.joints.count c.args.rankings.now.bands c.settle_lists.new.out
paired c =
    paired_lists _ _ _
    (sym c.settle_lists.ensures.value ∙ c.in-Ok-Paired.is ∙ ap Ok c.in-Ok-Paired.field-0-is) c.settle_lists.ensures.out_after

pub slice_bounds-listing-end : goal.slice_bounds-listing-end
slice_bounds-listing-end c = sym (paired (goal.at.slice_bounds-listing-end c).In-Ok-Paired).size

pub invariant_of-listing : goal.invariant_of-listing
invariant_of-listing c =
    let p = paired (goal.at.invariant_of-listing c).In-Ok-Paired in
    record { listable = record { labelled = rw p.size c.requires.labelled; within = rw p.size p.within } }

pub write_pairing-requires : goal.write_pairing-requires
write_pairing-requires c = rw (paired (goal.at.write_pairing-requires c).In-Ok-Paired).text at c.requires.room

pub returns-in-Ok-Paired : goal.returns-in-Ok-Paired
returns-in-Ok-Paired c = rw (paired (goal.at.returns-in-Ok-Paired c).In-Ok-Paired).text c.write_pairing.ensures

pub write_none-requires : goal.write_none-requires
write_none-requires c =
    let a = c.args in
    let ended = sym c.settle_lists.ensures.value ∙ c.in-Ok-None.is ∙ ap Ok c.in-Ok-None.field-0-is in
    rw (text_none (label_at a.opened.bytes.now a.opened.labels) a.rankings.now.joints.count a.rankings.now.bands ended) at c.requires.room

pub returns-in-Ok-None : goal.returns-in-Ok-None
returns-in-Ok-None c =
    let a = c.args in
    let ended = sym c.settle_lists.ensures.value ∙ c.in-Ok-None.is ∙ ap Ok c.in-Ok-None.field-0-is in
    rw (text_none (label_at a.opened.bytes.now a.opened.labels) a.rankings.now.joints.count a.rankings.now.bands ended) c.write_none.ensures

pub write_refused-requires : goal.write_refused-requires
write_refused-requires c =
    let a = c.args in
    let ended = sym c.settle_lists.ensures.value ∙ c.in-Err.is in
    rw (text_refused (label_at a.opened.bytes.now a.opened.labels) a.rankings.now.joints.count a.rankings.now.bands ended) at c.requires.room

pub returns-in-Err : goal.returns-in-Err
returns-in-Err c =
    let a = c.args in
    let ended = sym c.settle_lists.ensures.value ∙ c.in-Err.is in
    rw (text_refused (label_at a.opened.bytes.now a.opened.labels) a.rankings.now.joints.count a.rankings.now.bands ended) c.write_refused.ensures
