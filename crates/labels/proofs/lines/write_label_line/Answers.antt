use Rattle.writing.proofs.Writers.{puts_append, room_front, room_behind}
use Rattle.labels.specs.Lines.{label_line}
use Rattle.labels.proofs.lines.write_label_line.Goals as goal

pub write_label-requires : goal.write_label-requires
unfolding label_line
write_label-requires c = room_front _ c.requires

pub put-requires : goal.put-requires
unfolding label_line
put-requires c = room_behind c.requires c.write_label.ensures

pub returns : goal.returns
unfolding label_line
returns c = puts_append c.write_label.ensures c.put.ensures
