use Rattle.std.specs.Prelude as found
use Rattle.headings.specs.Headings.{site}
use Rattle.headings.proofs.HeadingLaws.{chain_on, chain_broken}
use Rattle.headings.proofs.site.Goals as goal

pub returns-in_err-brace : goal.returns-in_err-brace
unfolding site
returns-in_err-brace c = rw c.from_residual.ensures (chain_broken _ _ c.in_err-brace.ensures)

pub returns-in_err-close : goal.returns-in_err-close
unfolding site
returns-in_err-close c =
    rw c.from_residual-in_err-close.ensures (chain_on _ _ found.None c.in_ok-brace.ensures (chain_broken _ _ c.in_err-close.ensures))

pub returns : goal.returns
unfolding site
returns c = chain_on _ _ _ c.in_ok-brace.ensures (chain_on _ _ _ c.in_ok-close.ensures c.keyword-2.ensures)
