use Rattle.words.proofs.MetLaws.{counted_none, counted_unfit, counted_is, next_follows, reaches_from}
use Rattle.words.proofs.counts.counted_words.Goals as goal

pub returns-in_err-word : goal.returns-in_err-word
returns-in_err-word c = rw c.from_residual.ensures (counted_none _ c.in_err-word.ensures)

pub returns-in_err-count_of : goal.returns-in_err-count_of
returns-in_err-count_of c = rw c.from_residual-in_err-count_of.ensures (counted_unfit c.in_ok-word.ensures c.in_err-count_of.ensures)

pub returns : goal.returns
returns c = let next = c.in_ok-word.ensures in reaches_from _ (next_follows next) (counted_is next _ _ c.in_ok-count_of.ensures) c.any_words.ensures
