-- The records, one by one.
use mathlib.Core.Path.{◌≡◌, refl, ◌∙◌, ap}
use native.Mathlib.Omega.{arith}
use Rattle.std.proofs.Common.{Err, rules}
use Rattle.refusals.proofs.Numbers.{number_some}
use Rattle.records.specs.Records.{Marked}
use Rattle.steering.specs.Ends.{followed}
use Rattle.acting.proofs.LawsActing.{begins_unmarked, begins_lawful}
use Rattle.steering.proofs.LawsSteering.{none_in, none_left, stops_at, goes_on}
use Rattle.steering.proofs.follow.Goals as goal

pub returns-then-is_empty-clause-followed : goal.returns-then-is_empty-clause-followed
returns-then-is_empty-clause-followed c = none_in _ (search rules) c.args.working.now _

pub loop-record-init : goal.loop-record-init
loop-record-init c =
    let g = c.args.working.now in
    (begins_lawful c.requires, (refl, ap (λ (s : Marked). followed g s c.args.records.now) (begins_unmarked g)))

pub returns-in_err-act-clause-followed : goal.returns-in_err-act-clause-followed
returns-in_err-act-clause-followed c =
    let back : c.from_residual.result ≡ Err c.in_err-act.field-0.0 = search rules in
    let acts = rw c.from.ensures at c.in_err-act.ensures.acts in
    rw back (
    stops_at c.loop-record.working c.act.new.working c.loop-record.marks c.act.new.marks _ _ c.loop-record-test.true _
    (λ z. omega (arith, z, number_some c.in_err-act.field-0.0)) acts
    ∙ c.loop-record.invariant.1.1
    )

pub loop-record-preserved : goal.loop-record-preserved
loop-record-preserved c =
    let acts = rw c.from.ensures at c.in_ok-act.ensures.acts in (
      c.act.ensures.lawful,
      (
        c.act.ensures.task ∙ c.loop-record.invariant.1.0,
        goes_on c.loop-record.working c.act.new.working c.loop-record.marks c.act.new.marks _ _ c.loop-record-test.true c.act.ensures.task
            acts
            ∙ c.loop-record.invariant.1.1,
      ),
    )

pub returns-clause-followed : goal.returns-clause-followed
returns-clause-followed c = none_left _ _ c.loop-record-test.false c.loop-record.working _ ∙ c.loop-record.invariant.1.1
