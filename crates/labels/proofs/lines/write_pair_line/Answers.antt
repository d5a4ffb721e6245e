use Rattle.std.proofs.Common.{[], ◌∷◌, arith}
use Rattle.writing.proofs.Writers.{puts_append, room_front, room_behind}
use Rattle.labels.specs.Lines.{label_line, pair_line}
use Rattle.labels.proofs.lines.write_pair_line.Goals as goal

pub write_label-requires : goal.write_label-requires
unfolding pair_line
write_label-requires c = room_front _ c.requires

pub put-requires : goal.put-requires
unfolding pair_line
put-requires c = room_front {a = 32 ∷ []} (label_line c.args.second.now) (room_behind c.requires c.write_label.ensures)

pub write_label_line-requires : goal.write_label_line-requires
unfolding pair_line
write_label_line-requires c = record { fits = omega (arith, (room_behind (room_behind c.requires c.write_label.ensures) c.put.ensures).fits) }

pub returns : goal.returns
unfolding pair_line
returns c = puts_append c.write_label.ensures (puts_append c.put.ensures c.write_label_line.ensures)
