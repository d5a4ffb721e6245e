use Rattle.std.proofs.Common.{◌∙◌}
use Rattle.words.proofs.MetLaws.{pointwise_same, keyword_none, keyword_is, next_follows}
use Rattle.words.proofs.keyword.Goals as goal

pub returns-in_err-word : goal.returns-in_err-word
returns-in_err-word c = rw c.from_residual.ensures (keyword_none _ c.in_err-word.ensures _)

pub returns-then-eq : goal.returns-then-eq
returns-then-eq c =
    let next = c.in_ok-word.ensures in
    (keyword_is next _ _ (c.if-eq.ensures ∙ pointwise_same _ _), next_follows next)

pub returns-else-eq : goal.returns-else-eq
returns-else-eq c = keyword_is c.in_ok-word.ensures _ _ (c.if-eq.ensures ∙ pointwise_same _ _)
