-- Phase one without choices.
use mathlib.Core.Path.{◌≡◌}
use mathlib.Core.List.{List}
use Prim.Native.Nat.{ℕ, ◌+◌, ◌*◌, ◌-◌, ◌≤◌}
use Rattle.roommates.specs.declared.Stage.{Stage}
use Rattle.roommates.specs.PhaseOne.{work, run_out}
use Rattle.proposals.proofs.run_on.Given as goal

abbrev pub invariant-loop-turn : goal.invariant-loop-turn
invariant-loop-turn l = record {
  few : l.made.proposals ≤ 65536 + 128 * l._turn;
  runs : (s : Stage) (a : List ℕ) (c : ℕ) → run_out (l.turns - l._turn) l.n.count (work s l.bands l.made.reach l.made.received a l.made.proposals c)
      ≡ run_out l.turns l.n.count (work s l.initial.bands l.initial.made.reach l.initial.made.received a l.initial.made.proposals c);
}
