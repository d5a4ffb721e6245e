use Rattle.std.proofs.Common.{rules}
use Rattle.std.proofs.iter.runs.Sources.{ranges}
use Rattle.base.proofs.Chains.{any_told}
use Rattle.parents.proofs.parent_section.some_bad.Goals as goal

pub returns : goal.returns
returns c = any_told _ _ _ (λ e. search (rules, ranges)) (λ e j l. search (rules, ranges))
