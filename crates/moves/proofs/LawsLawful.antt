-- A working that may go on has small counts, and may go on after a move.
use mathlib.Core.Path.{◌≡◌, sym, ap, subst}
use Prim.Native.Nat.{ℕ}
use native.Mathlib.Omega.{arith}
use native.Mathlib.Nat.{mul-le-mul}
use Rattle.std.proofs.Common.{Result}
use Rattle.refusals.specs.declared.Refusal.{Refusal}
use Rattle.sheet.specs.Square.{SquarePromise}
use Rattle.roommates.specs.PhaseOne.{Work}
use Rattle.roommates.specs.Moves.{Outcome}
use Rattle.roommates.specs.Runs.{Arrived}
use Rattle.roommates.proofs.Sound.{promise_sound}
use Rattle.roommates.proofs.EntryCounts.{entries_bound}
use Rattle.roommates.proofs.Arrivals.{move_arrives}
use Rattle.roommates.proofs.WorkingsEnd.{arrived_few}
use Rattle.stages.specs.declared.Task.{Task}
use Rattle.stages.specs.declared.Working.{Working}
use Rattle.stages.specs.Workings.{work_of, Ruled}
use Rattle.moves.specs.Moved.{Moved, Roomy}
use Rattle.stages.specs.Lawful.{Lawful}

module _ {g : Working} (s : Lawful g) where
  pub roomy : Roomy g
  roomy =
      let few = arrived_few (promise_sound s.promise) s.arrived in
      let few0 = few.0 in
      let few1 = few.1 in
      let all = entries_bound g.task.joints.count s.start in
      let most = mul-le-mul g.task.joints.few g.task.joints.few in
      (omega arith, omega arith)

  -- where it arrives, it is lawful too
  pub lawful_at : {h : Working} {w : Work} → h.task ≡ g.task → work_of h ≡ w → Ruled h → Arrived g.task.whole g.task.joints.count s.start w → Lawful h
  lawful_at {h} task is knows arrived = record {
    start = s.start;
    promise = subst (λ (k : Task). SquarePromise k.joints.count s.start) (sym task) s.promise;
    arrived = subst (λ (k : Task). Arrived k.whole k.joints.count s.start (work_of h)) (sym task)
        (subst (Arrived g.task.whole g.task.joints.count s.start) (sym is) arrived);
    knows = knows;
  }

  pub lawful_on : {h : Working} (x : ℕ) (r : Result Unit Refusal) → Moved x g h r → Lawful h
  lawful_on x r m = lawful_at m.0 (ap (λ (o : Outcome). o.work_is) m.1.0) (m.1.1 s.knows) (move_arrives s.arrived x)
