use Rattle.std.proofs.Common.{◌≡◌, ◌∙◌, ◌≤◌, length, Err, arith, rules}
use Rattle.writing.proofs.Writers.{new_room, new_puts}
use Rattle.hierarchy.specs.Gathered.{gathered}
use Rattle.bvh.specs.Written.{sheet_for}
use Rattle.bvh.proofs.WriteLaws.{sheet_size}
use Rattle.bvh.proofs.ImportLaws.{import_refused, import_short, import_written}
use Rattle.bvh.proofs.import.Goals as goal
use Rattle.bvh.proofs.import.Goals.{After-new-sheet}

-- there is room for the sheet
fits : (c : After-new-sheet) → length (sheet_for (gathered c.read.new.joints.list.items)) ≤ length c.args.out.now
fits c =
    let long = sheet_size _ c.read.new.joints.good in
    omega (arith, c.size_of-size.ensures, long, c.if-out-size.false)

pub write_sheet-requires : goal.write_sheet-requires
write_sheet-requires c =
    let new = c.new-sheet.ensures in
    new_room {w = c.new-sheet.result} new.bytes new.start (fits (goal.at.write_sheet-requires c).After-new-sheet)

pub returns-in_err-read : goal.returns-in_err-read
returns-in_err-read c =
    let passed : c.from_residual.result ≡ Err c.in_err-read.field-0.0 = search rules in
    let says = import_refused c.args.text.now c.args.out.now _ (c.in_err-read.ensures c.new-joints.ensures) in
    record { value = rw passed says.0; out_after = says.1 }

pub returns-then-out-size : goal.returns-then-out-size
returns-then-out-size c =
    let read = c.in_ok-read.ensures c.new-joints.ensures in
    let says = import_short c.read.new.joints.good read c.args.out.now _ c.size_of-size.ensures c.if-out-size.true in
    record { value = says.0; out_after = says.1 }

pub returns : goal.returns
returns c =
    let read = c.in_ok-read.ensures c.new-joints.ensures in
    let new = c.new-sheet.ensures in
    let wrote = (new_puts new.bytes new.start (fits (goal.at.returns c).After-new-sheet) c.write_sheet.ensures).1 in
    let says = import_written c.read.new.joints.good read c.args.out.now _ _ c.size_of-size.ensures c.if-out-size.false wrote in
    record { value = says.0; out_after = (search rules) ∙ says.1 }
