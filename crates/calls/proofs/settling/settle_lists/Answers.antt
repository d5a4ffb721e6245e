-- 9, a refused choice, or by the working's verdict: one law for each.
use Rattle.std.proofs.Common.{rules, ◌≡◌, ℕ, Ok, Err, sym, ap, ◌∙◌}
use Rattle.base.proofs.Cases.{case}
use Rattle.refusals.specs.Numbers.{fault_in}
use Rattle.roommates.specs.declared.Stage.{Stage}
use Rattle.roommates.specs.declared.Stage.TheVariants.{Proposing, Cutting, NoneOne, NoneTwo, Paired}
use Rattle.roommates.specs.Left.{pairing_of}
use Rattle.roommates.specs.Moves.{outcome}
use Rattle.records.specs.Records.{settles_by}
use Rattle.stages.specs.Workings.{work_of}
use Rattle.matching.specs.Matchings.{pair_count}
use Rattle.calls.specs.declared.End.TheVariants as E
use Rattle.calls.specs.Calls.{ended_as, result_over}
use Rattle.calls.proofs.LawsCalls.{SettledSo, settling, settled_short, settled_choice, settled_at}
use Rattle.calls.proofs.settling.settle_lists.Goals as goal
use Rattle.calls.proofs.settling.settle_lists.Goals.{After-steer, In_ok-steer}

-- what became of the working, and what the call says where no choice was refused and it ended with the verdict v
worked : (c : After-steer) → let r = c.args.rankings.now in
    outcome (fault_in c.steer.result) (work_of c.steer.new.working) ≡ settles_by r.joints.count r.bands c.args.choices.now
worked c = c.steer.ensures _ _ _ c.begin-working.ensures.begun

at : (c : In_ok-steer) (v : Stage) → let r = c.args.rankings.now in let left = c.steer.new.working.lists in
    c.steer.new.working.stage ≡ v
    → SettledSo (settling r.joints.count r.bands c.args.choices.now c.args.out.now) c.args.out.now
    (Ok (ended_as v (pair_count (pairing_of r.joints.count left)))) (result_over v (pairing_of r.joints.count left) c.args.out.now)
at c v h =
    let r = c.args.rankings.now in
    settled_at r.joints.count r.bands c.args.choices.now c.args.out.now (fault_in c.steer.result) (work_of c.steer.new.working)
    (worked (goal.at.In_ok-steer c).After-steer) c.if-out-n.false v (ap fault_in c.in_ok-steer.was) h

pub returns-then-out-n : goal.returns-then-out-n
returns-then-out-n c =
    let r = c.args.rankings.now in
    let says = settled_short r.joints.count r.bands c.args.choices.now c.args.out.now c.if-out-n.true in
    record { value = says.0; out_after = says.1 }

pub returns-in_err-steer : goal.returns-in_err-steer
returns-in_err-steer c =
    let at = (goal.at.returns-in_err-steer c).After-steer in
    let r = c.args.rankings.now in
    let says = settled_choice r.joints.count r.bands c.args.choices.now c.args.out.now (fault_in c.steer.result) (work_of c.steer.new.working)
    (worked at) c.if-out-n.false c.in_err-steer.field-0.0 (sym (ap fault_in c.in_err-steer.was)) in
    let same : c.from_residual.result ≡ Err c.in_err-steer.field-0.0 = search rules in
    record { value = same ∙ says.0; out_after = says.1 }

pub write_pairing-requires : goal.write_pairing-requires
write_pairing-requires c = c.if-out-n.false

pub returns-in-Paired : goal.returns-in-Paired
returns-in-Paired c =
    let so = at (goal.at.returns-in-Paired c).In_ok-steer Paired c.in-Paired.is in
    record { value = ap (λ (k : ℕ). Ok (E.Paired k)) c.write_pairing.ensures.value ∙ so.0; out_after = c.write_pairing.ensures.out_after ∙ so.1 }

pub returns-in-NoneOne : goal.returns-in-NoneOne
returns-in-NoneOne c =
    let so = at (goal.at.returns-in-NoneOne c).In_ok-steer NoneOne c.in-NoneOne.is in
    record { value = so.0; out_after = so.1 }

pub returns-in-NoneTwo : goal.returns-in-NoneTwo
returns-in-NoneTwo c =
    let inside = (goal.at.returns-in-NoneTwo c).In_ok-steer in
    let so = case c.in-NoneTwo.is (λ e. at inside NoneTwo e) (λ o. case o (λ e. at inside Proposing e) (λ e. at inside Cutting e)) in
    record { value = so.0; out_after = so.1 }

pub steer-requires : goal.steer-requires
steer-requires c = c.begin-working.ensures.lawful c.args.rankings.now.promise
