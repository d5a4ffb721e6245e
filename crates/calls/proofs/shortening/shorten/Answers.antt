-- A refused sheet's refusal, or what its rankings give.
use Rattle.std.proofs.Common.{rules, ◌≡◌, Err, ◌∙◌}
use native.Mathlib.Omega.{arith}
use Rattle.calls.specs.Calls.{shorten_call}
use Rattle.calls.proofs.LawsCalls.{so_short, sheet_refused, read_with, read_entries, shorten_read}
use Rattle.calls.proofs.shortening.shorten.Goals as goal

pub returns-in_err-read : goal.returns-in_err-read
returns-in_err-read c =
    let a = c.args in
    let r = c.in_err-read.field-0.0 in
    let says = so_short (shorten_call a.sheet.now a.choices.now a.out.now) a.out.now r (sheet_refused _ _ r c.in_err-read.ensures) in
    let same : c.from_residual.result ≡ Err r = search rules in
    record { value = same ∙ says.0; out_after = says.1 }

pub returns : goal.returns
returns c =
    let a = c.args in
    let known = read_with a.sheet.now c.in_ok-read.read c.in_ok-read.ensures in
    let says = shorten_read a.sheet.now _ _ _ known a.choices.now a.out.now (c.shorten_lists.ensures.value, c.shorten_lists.ensures.out_after) in
    record { value = says.0; out_after = says.1 }

pub shorten_lists-requires : goal.shorten_lists-requires
shorten_lists-requires c =
    let e = read_entries _ _ _ _ (read_with c.args.sheet.now c.in_ok-read.read c.in_ok-read.ensures) in
    (e.0, omega (arith, e.1))
