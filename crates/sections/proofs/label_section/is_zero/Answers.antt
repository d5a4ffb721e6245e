use Rattle.std.proofs.Common.{rules}
use Rattle.std.proofs.iter.runs.Sources.{ranges}
use Rattle.sections.proofs.LabelLaws.{zero_told}
use Rattle.sections.proofs.label_section.is_zero.Goals as goal

pub returns : goal.returns
returns c = zero_told _ _ (λ t i l. search (rules, ranges)) (λ f. search (rules, ranges))
