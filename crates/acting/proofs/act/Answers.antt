-- A kind above 2, or what the record says.
use Rattle.std.proofs.Common.{rules, ◌≡◌, Err, sym, ap, ◌∙◌}
use Rattle.records.specs.Records.{acts}
use Rattle.records.proofs.Acting.{kind_other}
use Rattle.acting.proofs.act.Goals as goal

pub returns-in_err-choice-clause-acts : goal.returns-in_err-choice-clause-acts
returns-in_err-choice-clause-acts c =
    let back : c.from_residual.result ≡ Err c.in_err-choice.field-0.0 = search rules in
    rw (back, c.in_err-choice.ensures.0) (sym (kind_other _ _ _ _ c.in_err-choice.ensures.1))

pub returns-clause-acts : goal.returns-clause-acts
returns-clause-acts c = c.choose.ensures.acts ∙ ap (acts _ _ _) c.in_ok-choice.ensures
