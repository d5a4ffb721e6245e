use mathlib.Core.Path.{sym}
use lib.ListN.{replicate}
use lib.Seq.{length-take-le}
use Rattle.bvh.proofs.Within.{sheet_within}
use Rattle.bvh2sheet.proofs.answer.Goals as goal

pub slice_bounds-sheet-end : goal.slice_bounds-sheet-end
slice_bounds-sheet-end c =
    let text = c.args.text.now in
    sheet_within text (replicate 2180 0) _ _ c.import.ensures.value c.import.ensures.out_after c.in-Ok.is

pub slice_bounds-write_all-end : goal.slice_bounds-write_all-end
slice_bounds-write_all-end c =
    let text = c.args.text.now in
    sym (length-take-le _ _ (sheet_within text (replicate 2180 0) _ _ c.import.ensures.value c.import.ensures.out_after c.in-Ok.is))
