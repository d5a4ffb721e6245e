-- The rows only grow.
use Rattle.std.proofs.Common.{◌≤◌, length}
use Rattle.reference.proofs.add_pair.Given as goal

abbrev pub invariant-loop-r : goal.invariant-loop-r
invariant-loop-r l = length l.initial.rows.items ≤ length l.rows.items
