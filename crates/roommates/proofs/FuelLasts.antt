-- Phase one never runs out of fuel: each step makes a proposal, and there are at most n × n.
use Prim.Native.Nat.{ℕ, ◌*◌, ◌≤◌}
use native.Mathlib.Omega.{arith}
use Rattle.base.proofs.Cases.{case}
use Rattle.roommates.specs.Lists.{Square}
use Rattle.roommates.specs.PhaseOne.{Work, fresh, phase_one, fuel}
use Rattle.roommates.specs.Runs.{OneEnded}
use Rattle.roommates.proofs.Sound.{Sound}
use Rattle.roommates.proofs.Running.{RanOut, runs_out}
use Rattle.roommates.proofs.FewProposals.{few_proposals}

pub phase_one_ends : {n : ℕ} {t : Square} → Sound n t → OneEnded n t (phase_one n (fresh t))
phase_one_ends {n} {t} s =
    let w : Work = phase_one n (fresh t) in
    let m : RanOut n (fuel n) (fresh t) w = runs_out (fuel n) n (fresh t) in
    let few : w.proposals ≤ n * n = few_proposals s m.run in record {
      run = m.run;
      quiet = case m.how (λ quiet. quiet) (λ spent. absurd (omega arith));
    }
