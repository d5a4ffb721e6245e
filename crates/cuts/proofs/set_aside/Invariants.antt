-- The joints set aside.
use mathlib.Core.Path.{◌≡◌}
use Rattle.roommates.specs.PhaseTwo.{aside_below}
use Rattle.cuts.proofs.set_aside.Given as goal

abbrev pub invariant-loop-i : goal.invariant-loop-i
invariant-loop-i l = l.aside ≡ aside_below l.i l.n.count l.bands
