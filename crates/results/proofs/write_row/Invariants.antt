-- A joint's entries, candidate by candidate.
use Rattle.writing.specs.Written.{Puts}
use Rattle.roommates.specs.Left.{row_entries}
use Rattle.results.proofs.write_row.Given as goal

abbrev pub invariant-loop-b : goal.invariant-loop-b
invariant-loop-b l = Puts l.initial.out (row_entries l.b l.a l.row) l.out
