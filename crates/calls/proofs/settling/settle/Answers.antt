-- A refused sheet's refusal, or what its rankings give.
use Rattle.std.proofs.Common.{rules, ◌≡◌, Err, ◌∙◌}
use Rattle.calls.specs.Calls.{settle_call}
use Rattle.calls.proofs.LawsCalls.{so_refused, sheet_refused, read_with, settle_read}
use Rattle.calls.proofs.settling.settle.Goals as goal

pub returns-in_err-read : goal.returns-in_err-read
returns-in_err-read c =
    let a = c.args in
    let r = c.in_err-read.field-0.0 in
    let says = so_refused (settle_call a.sheet.now a.choices.now a.out.now) a.out.now r (sheet_refused _ _ r c.in_err-read.ensures) in
    let same : c.from_residual.result ≡ Err r = search rules in
    record { value = same ∙ says.0; out_after = says.1 }

pub returns : goal.returns
returns c =
    let a = c.args in
    let known = read_with a.sheet.now c.in_ok-read.read c.in_ok-read.ensures in
    let says = settle_read a.sheet.now _ _ _ known a.choices.now a.out.now (c.settle_lists.ensures.value, c.settle_lists.ensures.out_after) in
    record { value = says.0; out_after = says.1 }
