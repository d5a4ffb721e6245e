use Rattle.std.proofs.Common.{rules, ◌≡◌, ℕ, List, length, sym, ◌∙◌}
use native.Mathlib.Omega.{arith}
use Rattle.std.specs.List.{concat}
use Rattle.base.proofs.Faults.{below_zero, below_next, below_hit}
use Rattle.refusals.proofs.Numbers.{answered_refused, value_answered, refusal_answered, some_answered}
use Rattle.refusals.specs.Numbers.{number_of}
use Rattle.sections.specs.Entries.{entry_fault, entries_fault}
use Rattle.sections.proofs.Numbers.{entry_is_fault}
use Rattle.sections.proofs.entry_section.read_entries.Goals as goal

pub loop-j-init : goal.loop-j-init
loop-j-init c = below_zero _

pub returns-in_err-judge_entry : goal.returns-in_err-judge_entry
returns-in_err-judge_entry c =
    let m : ℕ = length c.args.entries.now in
    let bytes : List ℕ = concat c.args.entries.now in
    let fault : ℕ → ℕ = entry_fault c.args.n bytes in
    let told = sym c.judge_entry.ensures ∙ c.in_err-judge_entry.was in
    let first = below_hit m fault c.loop-j.j (omega arith) c.loop-j.invariant (some_answered _ _ _ told) in
    let e : number_of c.in_err-judge_entry.field-0.0 ≡ entries_fault m c.args.n bytes = refusal_answered _ _ _ told ∙ first in
    search (rules, answered_refused (tt {0}) (entries_fault m c.args.n bytes) c.in_err-judge_entry.field-0.0 e)

pub loop-j-preserved : goal.loop-j-preserved
loop-j-preserved c =
    let told = sym c.judge_entry.ensures ∙ c.in_ok-judge_entry.was in
    below_next _ _ c.loop-j.invariant (value_answered _ _ _ (entry_is_fault c.args.n (concat c.args.entries.now) c.loop-j.j) told).0
