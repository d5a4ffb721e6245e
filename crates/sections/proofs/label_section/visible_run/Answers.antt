use Rattle.std.proofs.Common.{rules, sym}
use Rattle.std.proofs.iter.runs.Sources.{ranges}
use Rattle.sections.proofs.LabelLaws.{run_told}
use Rattle.sections.proofs.label_section.visible_run.Goals as goal

pub returns-clause-value : goal.returns-clause-value
returns-clause-value c = sym (run_told _ _ (search (rules, ranges)) (λ i l. search (rules, ranges)) (λ l. search (rules, ranges)))
