use Rattle.writing.proofs.Writers.{puts_append, room_front, room_behind}
use Rattle.bvh.proofs.sheets.write_label.Goals as goal

pub write-requires : goal.write-requires
write-requires c = room_front _ c.requires.1

pub zeros-requires : goal.zeros-requires
zeros-requires c = room_behind c.requires.1 c.write.ensures

pub returns : goal.returns
returns c = puts_append c.write.ensures c.zeros.ensures
