-- 9, a refused choice, or by the working's verdict: one law for each.
use Rattle.std.proofs.Common.{rules, ◌≡◌, ℕ, ◌+◌, ◌*◌, ◌≤◌, ◌++◌, length, drop, Some, Ok, Err, refl, sym, ap, ◌∙◌}
use native.Mathlib.Omega.{arith}
use Rattle.refusals.specs.Numbers.{fault_in}
use Rattle.roommates.specs.declared.Stage.{Stage}
use Rattle.roommates.specs.declared.Stage.TheVariants.{Paired}
use Rattle.roommates.specs.Moves.{Outcome, outcome}
use Rattle.roommates.specs.Left.{entry_count, list_bytes}
use Rattle.roommates.proofs.EntriesWritten.{bytes_length}
use Rattle.records.specs.Records.{shortens_by}
use Rattle.stages.specs.Workings.{work_of}
use Rattle.calls.specs.Calls.{listed_as, result_over}
use Rattle.calls.proofs.Answers.{unlisted}
use Rattle.calls.proofs.LawsCalls.{left_fits, ShortenedSo, shortening, shortened_short, shortened_choice, shortened_at}
use Rattle.calls.proofs.shortening.shorten_lists.Goals as goal
use Rattle.calls.proofs.shortening.shorten_lists.Goals.{After-steer, In_ok-steer}

-- what became of the working
worked : (c : After-steer) → let r = c.args.rankings.now in
    outcome (fault_in c.steer.result) (work_of c.steer.new.working) ≡ shortens_by r.joints.count r.bands c.args.choices.now
worked c = c.steer.ensures _ _ _ c.begin-working.ensures.begun

-- what is left is no more than the sheet has
fits : (c : After-steer) → entry_count c.args.rankings.now.joints.count c.steer.new.working.lists ≤ c.args.m
fits c =
    let r = c.args.rankings.now in
    let few = rw (← ap (λ (o : Outcome). o.work_is.lists) (worked c)) at (left_fits r.joints.count r.bands c.args.choices.now r.promise) in
    omega (arith, few, c.requires.0)

-- what the call says where no choice was refused and the working ended with the verdict v
at : (c : In_ok-steer) (v : Stage) → let r = c.args.rankings.now in let left = c.steer.new.working.lists in
    c.steer.new.working.stage ≡ v
    → ShortenedSo (shortening r.joints.count c.args.m r.bands c.args.choices.now c.args.out.now) c.args.out.now
    (Ok (listed_as v (entry_count r.joints.count left))) (result_over v (list_bytes r.joints.count left) c.args.out.now)
at c v h =
    let r = c.args.rankings.now in
    shortened_at r.joints.count c.args.m r.bands c.args.choices.now c.args.out.now (fault_in c.steer.result) (work_of c.steer.new.working)
    (worked (goal.at.In_ok-steer c).After-steer) c.if-out-m.false v (ap fault_in c.in_ok-steer.was) h

pub returns-then-out-m : goal.returns-then-out-m
returns-then-out-m c =
    let r = c.args.rankings.now in
    let says = shortened_short r.joints.count c.args.m r.bands c.args.choices.now c.args.out.now c.if-out-m.true in
    record { value = says.0; out_after = says.1 }

pub returns-in_err-steer : goal.returns-in_err-steer
returns-in_err-steer c =
    let at = (goal.at.returns-in_err-steer c).After-steer in
    let r = c.args.rankings.now in
    let says = shortened_choice r.joints.count c.args.m r.bands c.args.choices.now c.args.out.now (fault_in c.steer.result) (work_of c.steer.new.working)
    (worked at) c.if-out-m.false c.in_err-steer.field-0.0 (sym (ap fault_in c.in_err-steer.was)) in
    let same : c.from_residual.result ≡ Err c.in_err-steer.field-0.0 = search rules in
    record { value = same ∙ says.0; out_after = says.1 }

pub returns-in_default : goal.returns-in_default
returns-in_default c =
    let r = c.args.rankings.now in
    let left = c.steer.new.working in
    let so = at (goal.at.returns-in_default c).In_ok-steer left.stage refl in
    let other = unlisted left.stage (entry_count r.joints.count left.lists) (list_bytes r.joints.count left.lists) c.args.out.now c.in_default.not-Paired in
    record { value = rw other.0 at so.0; out_after = rw other.1 at so.1 }

pub write_lists-requires : goal.write_lists-requires
write_lists-requires c = omega (arith, fits (goal.at.write_lists-requires c).After-steer, c.if-out-m.false)

pub overflow_cast-result : goal.overflow_cast-result
overflow_cast-result c = omega (arith, c.write_lists.ensures.value, fits (goal.at.overflow_cast-result c).After-steer, c.requires.1)

pub returns : goal.returns
returns c =
    let r = c.args.rankings.now in
    let so = at (goal.at.returns c).In_ok-steer Paired c.in-Paired.is in
    let bytes = list_bytes r.joints.count c.steer.new.working.lists in
    let count = c.write_lists.ensures.value in
    let long : 2 + 3 * c.write_lists.result ≡ length bytes = omega (arith, count, bytes_length r.joints.count c.steer.new.working.lists) in
    record { value = ap (λ (k : ℕ). Ok (Some k)) count ∙ so.0; out_after = c.write_lists.ensures.out_after ∙ (ap (λ (l : ℕ). bytes ++ drop l c.args.out.now) long ∙ so.1) }

pub steer-requires : goal.steer-requires
steer-requires c = c.begin-working.ensures.lawful c.args.rankings.now.promise
