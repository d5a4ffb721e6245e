-- The counts of every working are those of its steps and its cuts.
use mathlib.Core.Path.{◌≡◌, ◌∙◌, ap}
use Prim.Native.Nat.{ℕ, ◌+◌}
use native.Mathlib.Omega.{arith}
use Rattle.roommates.specs.Lists.{Square}
use Rattle.roommates.specs.PhaseOne.{Work}
use Rattle.roommates.specs.Runs.{cuts_made, ByCuts, in_phase_one, none_in_one, lists_left, in_phase_two, none_in_two, all_short}
use Rattle.roommates.specs.Histories.{proposals_in, steps_to, cuts_to, CountsAsSaid}
use Rattle.roommates.proofs.Running.{run_cuts}
use Rattle.roommates.proofs.HistoriesReached.{proposals_as_said}

by_cuts : {n : ℕ} {t : Square} {w : Work} {k : ℕ} (b : ByCuts n t w k)
    → (w.proposals ≡ proposals_in b.ended.run) × (w.cuts ≡ cuts_made b.made + k)
by_cuts {n} {t} b = (b.proposals_are ∙ proposals_as_said n t b.one b.ended.run, b.cuts_are)

pub counts_as_said : CountsAsSaid
unfolding steps_to cuts_to
counts_as_said whole n t w (in_phase_one h run p l e) = (proposals_as_said n t w run, run_cuts run)
counts_as_said whole n t w (none_in_one v h ended bad) =
    (ap (λ u. u.proposals) h ∙ proposals_as_said n t v ended.run, ap (λ u. u.cuts) h ∙ run_cuts ended.run)
counts_as_said whole n t w (lists_left k v h ended ok) =
    (ap (λ u. u.proposals) h ∙ proposals_as_said n t v ended.run, ap (λ u. u.cuts) h ∙ run_cuts ended.run)
counts_as_said whole n t w (in_phase_two h k by x l long) = let c = by_cuts by in let d = c.1 in (c.0, omega arith)
counts_as_said whole n t w (none_in_two h k by x l long failed) = let c = by_cuts by in let d = c.1 in (c.0, omega arith)
counts_as_said whole n t w (all_short h k by short) = let c = by_cuts by in let d = c.1 in (c.0, omega arith)
