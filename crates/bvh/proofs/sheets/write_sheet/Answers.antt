use Rattle.writing.proofs.Writers.{puts_append, room_front, room_behind}
use Rattle.bvh.proofs.WriteLaws.{sheet_is}
use Rattle.bvh.proofs.sheets.write_sheet.Goals as goal

pub put-requires : goal.put-requires
put-requires c = rw c.len-count.ensures.value (room_front _ (rw sheet_is at c.requires))

pub write_labels-requires : goal.write_labels-requires
write_labels-requires c =
    let put = rw c.len-count.ensures.value at c.put.ensures in
    room_front _ (room_behind (rw sheet_is at c.requires) put)

pub write-requires : goal.write-requires
write-requires c =
    let put = rw c.len-count.ensures.value at c.put.ensures in
    rw c.len-count.ensures.value (room_front _ (room_behind (room_behind (rw sheet_is at c.requires) put) c.write_labels.ensures))

pub write_parents-requires : goal.write_parents-requires
write_parents-requires c =
    let put = rw c.len-count.ensures.value at c.put.ensures in
    let wrote = rw c.len-count.ensures.value at c.write.ensures in
    room_behind (room_behind (room_behind (rw sheet_is at c.requires) put) c.write_labels.ensures) wrote

pub returns : goal.returns
returns c =
    let put = rw c.len-count.ensures.value at c.put.ensures in
    let wrote = rw c.len-count.ensures.value at c.write.ensures in
    rw sheet_is (puts_append put (puts_append c.write_labels.ensures (puts_append wrote c.write_parents.ensures)))
