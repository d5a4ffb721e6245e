use Rattle.sections.specs.Labels.{label_bad}
use Rattle.sections.proofs.Chunks.{label_in_row}
use Rattle.sections.proofs.label_section.label_bad.Goals as goal

pub returns-then-not-label_ok : goal.returns-then-not-label_ok
unfolding label_bad
returns-then-not-label_ok c = rw (label_in_row _ c.told-labels c.args.i c.requires, ← c.label_ok.ensures, c.if-not-label_ok.true)

pub returns-else-not-label_ok : goal.returns-else-not-label_ok
unfolding label_bad
returns-else-not-label_ok c =
    rw (label_in_row _ c.told-labels c.args.i c.requires, ← c.label_ok.ensures, c.if-not-label_ok.false) c.repeats_any.ensures
