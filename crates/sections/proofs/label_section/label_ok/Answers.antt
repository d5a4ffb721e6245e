use borrow.Author.Tests.{le-leb, lt-leb}
use Rattle.base.proofs.Places.{rest_is}
use Rattle.sections.specs.Labels.{label_ok}
use Rattle.sections.proofs.label_section.label_ok.Goals as goal

pub returns-then-run-ge1 : goal.returns-then-run-ge1
unfolding label_ok
returns-then-run-ge1 c = rw (← c.visible_run-run.ensures.value, le-leb _ _ c.if-run-ge1.true, ← rest_is c.visible_run-run.result c.args.label.now) c.is_zero.ensures

pub returns-else-run-ge1 : goal.returns-else-run-ge1
unfolding label_ok
returns-else-run-ge1 c = rw (← c.visible_run-run.ensures.value, lt-leb _ _ c.if-run-ge1.false)
