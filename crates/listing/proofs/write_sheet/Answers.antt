-- A refused sheet's text, or that of its rankings.
use Rattle.std.proofs.Common.{arith}
use Rattle.listing.proofs.SheetTexts.{text_fault, listed_sheet}
use Rattle.listing.proofs.write_sheet.Goals as goal

pub returns-in-Err : goal.returns-in-Err
returns-in-Err c = rw (text_fault c.args.sheet.now _ c.in-Err.ensures) c.write_refused.ensures

pub new-opened-requires : goal.new-opened-requires
new-opened-requires c = let l = (listed_sheet c.args.sheet.now c.in-Ok.found c.in-Ok.ensures).labelled in (omega arith, omega arith)

pub list_lists-requires : goal.list_lists-requires
list_lists-requires c =
    let e = c.new-opened.ensures in
    let listed = listed_sheet c.args.sheet.now c.in-Ok.found c.in-Ok.ensures in
    record { labelled = rw (e.0, e.1.0, e.1.1) listed.labelled; room = rw (e.0, e.1.0) (rw listed.text at c.requires) }

pub write_refused-requires : goal.write_refused-requires
write_refused-requires c = rw (text_fault c.args.sheet.now _ c.in-Err.ensures) at c.requires

pub returns-in-Ok : goal.returns-in-Ok
returns-in-Ok c =
    let e = c.new-opened.ensures in
    let text = (listed_sheet c.args.sheet.now c.in-Ok.found c.in-Ok.ensures).text in
    rw text (rw (e.0, e.1.0) at c.list_lists.ensures)
