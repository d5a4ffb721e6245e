use mathlib.Core.Path.{ap, ◌∙◌}
use Rattle.pairing.specs.CCodes.{counts_code}
use Rattle.pairing.proofs.LawsCCodes.{proposals_small}
use Rattle.pairing.proofs.counting.mirror_counts.Goals as goal

pub counts_code-requires : goal.counts_code-requires
counts_code-requires c = rw c.count_working.ensures (proposals_small _ _ _)

pub returns : goal.returns
returns c = c.counts_code.ensures ∙ ap counts_code c.count_working.ensures
