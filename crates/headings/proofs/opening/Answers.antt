use Rattle.std.specs.Prelude as found
use Rattle.headings.specs.Headings.{opening}
use Rattle.headings.proofs.HeadingLaws.{chain_on, chain_broken}
use Rattle.headings.proofs.opening.Goals as goal

pub returns-in_err-offset : goal.returns-in_err-offset
unfolding opening
returns-in_err-offset c = rw c.from_residual.ensures (chain_broken _ _ c.in_err-offset.ensures)

pub returns-in_err-numbers : goal.returns-in_err-numbers
unfolding opening
returns-in_err-numbers c =
    rw c.from_residual-in_err-numbers.ensures (chain_on _ _ found.None c.in_ok-offset.ensures (chain_broken _ _ c.in_err-numbers.ensures))

pub returns : goal.returns
unfolding opening
returns c = chain_on _ _ _ c.in_ok-offset.ensures (chain_on _ _ _ c.in_ok-numbers.ensures c.any_words.ensures)
