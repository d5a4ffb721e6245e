-- How many proposals stand at a joint, counted.
use mathlib.Core.Path.{◌≡◌}
use Prim.Native.Nat.{◌≤◌}
use Rattle.roommates.specs.PhaseOne.{standing_at}
use Rattle.lists.proofs.strikes.standing_at.Given as goal

abbrev pub invariant-loop-p : goal.invariant-loop-p
invariant-loop-p l = record { few : l.count ≤ l.p; counted : l.count ≡ standing_at l.p l.bands l.reach l.q }
