-- The labels are cut off the part, and are its first n.
use Rattle.std.proofs.Common.{rules, ◌≡◌, ℕ, ◌*◌, ◌/◌, ◌≤◌, ◌<◌, length, take, ap, ◌∙◌}
use native.Mathlib.Omega.{arith}
use borrow.Author.Tests.{lt-ltb, le-ltb}
use Rattle.std.specs.List.{concat}
use Rattle.base.specs.Below.{any_below}
use Rattle.base.specs.Faults.{first_fault}
use Rattle.refusals.proofs.Numbers.{answered_none, answered_refused}
use Rattle.refusals.specs.declared.Refusal.TheVariants.{SheetCutShort, BadLabel}
use Rattle.sections.specs.Labels.{label_bad, labels_fault}
use Rattle.sections.proofs.Chunks.{all_in_row, bad_cut}
use Rattle.sections.proofs.label_section.read_labels.Goals as goal
use Rattle.sections.proofs.label_section.read_labels.Goals.{After-some_label_bad}

long : (c : After-some_label_bad) → (16 * c.args.n.count ≤ length c.args.part.now) × (length c.in-Some.section.now ≡ 16 * c.args.n.count)
long c = let h = c.in-Some.ensures.lookup.0 in (omega (arith, h.1), omega (arith, h.3))

cut : (c : After-some_label_bad) → c.in-Some.section.now ≡ take (16 * c.args.n.count) c.args.part.now
cut c = search rules

tested : (c : After-some_label_bad) → c.some_label_bad.result ≡ any_below c.args.n.count (label_bad c.args.part.now)
tested c =
    let n : ℕ = c.args.n.count in
    let size = (long c).1 in
    let many : length c.as_chunks.result.0.now ≡ n = omega (arith, c.as_chunks.ensures.front_len, size) in
    let whole : length c.in-Some.section.now ≡ 16 * (length c.in-Some.section.now / 16) = omega (arith, size) in
    let row : concat c.as_chunks.result.0.now ≡ take (16 * n) c.args.part.now =
    ap concat c.as_chunks.ensures.front ∙ all_in_row 16 _ _ whole ∙ cut c in
    (rw (many, row) at c.some_label_bad.ensures) ∙ bad_cut n c.args.part.now

pub returns-in_default : goal.returns-in_default
unfolding labels_fault first_fault
returns-in_default c =
    let short : length c.args.part.now < 16 * c.args.n.count = search rules in
    answered_refused _ (labels_fault c.args.n.count c.args.part.now) SheetCutShort (rw (labels_fault, lt-ltb _ _ short))

pub returns-then-some_label_bad : goal.returns-then-some_label_bad
unfolding labels_fault first_fault
returns-then-some_label_bad c =
    let at = (goal.at.returns-then-some_label_bad c).After-some_label_bad in
    answered_refused _ (labels_fault c.args.n.count c.args.part.now) BadLabel
    (rw (labels_fault, le-ltb _ _ (long at).0, ← tested at, c.if-some_label_bad.true))

pub returns : goal.returns
unfolding labels_fault first_fault
returns c =
    let at = (goal.at.returns c).After-some_label_bad in
    answered_none _ (labels_fault c.args.n.count c.args.part.now)
    (rw (labels_fault, le-ltb _ _ (long at).0, ← tested at, c.if-some_label_bad.false))
