-- All entries, joint by joint.
use mathlib.Core.List.{List}
use Prim.Native.Nat.{ℕ}
use Rattle.base.specs.Below.{joined}
use Rattle.writing.specs.Written.{Puts}
use Rattle.roommates.specs.Lists.{Square, row}
use Rattle.roommates.specs.Left.{row_entries}
use Rattle.results.proofs.write_rows.Given as goal

abbrev pub rows : ℕ → Square → ℕ → List ℕ
rows n t a = row_entries n a (row t a)

abbrev pub invariant-loop-a : goal.invariant-loop-a
invariant-loop-a l = Puts l.initial.out (joined l.a (rows l.n.count l.bands)) l.out
