-- Room goes by lengths alone: so what a line with another end breaks is the line.
use Rattle.std.proofs.Common.{arith}
use Rattle.writing.specs.Decimal.{number_line}
use Rattle.writing.proofs.Writers.{puts_append, room_front, room_behind}
use Rattle.writing.proofs.Writer.number_line.Goals as goal

pub write-requires : goal.write-requires
unfolding number_line
write-requires c = room_front _ c.requires.1

pub number-requires : goal.number-requires
unfolding number_line
number-requires c = (c.requires.0, room_front _ (room_behind c.requires.1 c.write.ensures))

pub put-requires : goal.put-requires
unfolding number_line
put-requires c = record { fits = omega (arith, (room_behind (room_behind c.requires.1 c.write.ensures) c.number.ensures).fits) }

pub returns : goal.returns
unfolding number_line
returns c = puts_append c.write.ensures (puts_append c.number.ensures c.put.ensures)
