-- A parent that is written is lower, so all stay roots or below lower joints.
use Rattle.std.proofs.Common.{◌≡◌, length}
use Rattle.parents.specs.Claims.{Lower}
use Rattle.skeleton_test.proofs.every.nth_parents.Given as goal

abbrev pub invariant-loop-i : goal.invariant-loop-i
invariant-loop-i l = (length l.parents ≡ 8) × Lower l.parents
