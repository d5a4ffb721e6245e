use mathlib.Core.Path.{◌≡◌, sym, ◌∙◌}
use mathlib.Core.Bool.{false}
use Rattle.std.specs.List.{concat}
use Rattle.base.specs.Faults.{first_fault}
use Rattle.refusals.proofs.Numbers.{answered_none, answered_refused}
use Rattle.refusals.specs.declared.Refusal.TheVariants.{NoSuchJoint, BadBand, EntryNotAfter}
use Rattle.sections.specs.declared.Entry.{Entry}
use Rattle.sections.specs.Entries.{outside, no_band, entry_in, entry_fault}
use Rattle.sections.proofs.Chunks.{entry_in_row}
use Rattle.sections.proofs.entry_section.judge_entry.Goals as goal
use Rattle.sections.proofs.entry_section.judge_entry.Goals.{After-from-e, Else-has_no_band, Else-is_outside}

-- the entry that the tests are of
abbrev the : (c : After-from-e) → Entry
the c = entry_in (concat c.args.entries.now) c.args.j

is : (c : After-from-e) → c.from-e.result ≡ the c
is c = c.from-e.ensures ∙ entry_in_row _ c.told-entries c.args.j c.requires

-- where a test has failed
inside : (c : Else-is_outside) → outside c.args.n (the (goal.at.Else-is_outside c).After-from-e) ≡ false
inside c = rw (← is (goal.at.Else-is_outside c).After-from-e) (sym c.is_outside.ensures ∙ c.if-is_outside.false)

banded : (c : Else-has_no_band) → no_band (the (goal.at.Else-has_no_band c).After-from-e) ≡ false
banded c = rw (← is (goal.at.Else-has_no_band c).After-from-e) (sym c.has_no_band.ensures ∙ c.if-has_no_band.false)

pub returns-then-is_outside : goal.returns-then-is_outside
unfolding entry_fault first_fault
returns-then-is_outside c =
    answered_refused _ (entry_fault c.args.n (concat c.args.entries.now) c.args.j) NoSuchJoint
    (rw (← is (goal.at.returns-then-is_outside c).After-from-e, ← c.is_outside.ensures, c.if-is_outside.true))

pub returns-then-has_no_band : goal.returns-then-has_no_band
unfolding entry_fault first_fault
returns-then-has_no_band c =
    let at = goal.at.returns-then-has_no_band c in
    answered_refused _ (entry_fault c.args.n (concat c.args.entries.now) c.args.j) BadBand
    (rw (inside at.Else-is_outside, ← is at.After-from-e, ← c.has_no_band.ensures, c.if-has_no_band.true))

pub returns-then-is_misplaced : goal.returns-then-is_misplaced
unfolding entry_fault first_fault
returns-then-is_misplaced c =
    let at = goal.at.returns-then-is_misplaced c in
    answered_refused _ (entry_fault c.args.n (concat c.args.entries.now) c.args.j) EntryNotAfter
    (rw (inside at.Else-is_outside, banded at.Else-has_no_band, ← c.is_misplaced.ensures, c.if-is_misplaced.true))

pub returns : goal.returns
unfolding entry_fault first_fault
returns c =
    let at = goal.at.returns c in
    answered_none _ (entry_fault c.args.n (concat c.args.entries.now) c.args.j)
    (rw (inside at.Else-is_outside, banded at.Else-has_no_band, ← c.is_misplaced.ensures, c.if-is_misplaced.false))
