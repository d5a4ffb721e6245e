-- There is room for every text.
use Rattle.std.proofs.Common.{◌≤◌, length, arith}
use Rattle.writing.proofs.Writers.{new_room, new_puts}
use Rattle.listing.specs.Sheets.{sheet_text}
use Rattle.listing.proofs.SheetTexts.{text_short}
use Rattle.listing.proofs.list_sheet.Goals as goal
use Rattle.listing.proofs.list_sheet.Goals.{After-new-text}

fits : (c : After-new-text) → length (sheet_text c.args.sheet.now) ≤ length c.args.out.now
fits c = omega (arith, text_short c.args.sheet.now)

pub write_sheet-requires : goal.write_sheet-requires
write_sheet-requires c =
    let new = c.new-text.ensures in
    new_room {w = c.new-text.result} new.bytes new.start (fits (goal.at.write_sheet-requires c).After-new-text)

pub returns : goal.returns
returns c =
    let new = c.new-text.ensures in
    let says = new_puts new.bytes new.start (fits (goal.at.returns c).After-new-text) c.write_sheet.ensures in
    record { value = says.0; out_after = says.1 }
