-- The counts that the working hands out; they are small.
use Rattle.std.proofs.Common.{rules, ◌≡◌, ◌≤◌, ap}
use native.Mathlib.Omega.{arith}
use Rattle.refusals.specs.Numbers.{fault_in}
use Rattle.roommates.specs.Moves.{Outcome, outcome}
use Rattle.records.specs.Records.{worked_by}
use Rattle.stages.specs.Workings.{work_of}
use Rattle.calls.specs.Calls.{end_counts}
use Rattle.calls.proofs.Answers.{refusal_in}
use Rattle.calls.proofs.LawsCalls.{work_few}
use Rattle.calls.proofs.counting.count_lists.Goals as goal
use Rattle.calls.proofs.counting.count_lists.Goals.{After-steer-steered}

worked : (c : After-steer-steered) → let r = c.args.rankings.now in
    outcome (fault_in c.steer-steered.result) (work_of c.steer-steered.new.working) ≡ worked_by c.args.whole r.joints.count r.bands c.args.choices.now
worked c = c.steer-steered.ensures _ _ _ c.begin-working.ensures.begun

few : (c : After-steer-steered) → (c.steer-steered.new.working.made.proposals ≤ 16384) × (c.steer-steered.new.working.cuts ≤ 16384)
few c =
    let r = c.args.rankings.now in
    let p : c.steer-steered.new.working.made.proposals ≡ _ = ap (λ (o : Outcome). o.work_is.proposals) (worked c) in
    let q : c.steer-steered.new.working.cuts ≡ _ = ap (λ (o : Outcome). o.work_is.cuts) (worked c) in
    let most = work_few c.args.whole r.joints.count r.bands r.promise c.args.choices.now in
    (omega (arith, most.0), omega (arith, most.1))

pub overflow_cast-result : goal.overflow_cast-result
overflow_cast-result c = omega (arith, (few (goal.at.overflow_cast-result c).After-steer-steered).0)

pub overflow_cast-result-2 : goal.overflow_cast-result-2
overflow_cast-result-2 c = omega (arith, (few (goal.at.overflow_cast-result-2 c).After-steer-steered).1)

pub returns : goal.returns
returns c =
    let at = (goal.at.returns c).After-steer-steered in
    let named = refusal_in c.steer-steered.result c.err.result (λ a e. search rules) (λ e f. search rules) in
    rw named (ap end_counts (worked at))

pub steer-steered-requires : goal.steer-steered-requires
steer-steered-requires c = c.begin-working.ensures.lawful c.args.rankings.now.promise
