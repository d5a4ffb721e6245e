use Rattle.std.specs.Prelude as found
use Rattle.headings.specs.Headings.{heading}
use Rattle.headings.proofs.HeadingLaws.{chain_on, chain_broken}
use Rattle.headings.proofs.heading.Goals as goal

pub returns-in_err-channels : goal.returns-in_err-channels
unfolding heading
returns-in_err-channels c = rw c.from_residual.ensures (chain_broken _ _ c.in_err-channels.ensures)

pub returns-in_err-count : goal.returns-in_err-count
unfolding heading
returns-in_err-count c =
    rw c.from_residual-in_err-count.ensures (chain_on _ _ found.None c.in_ok-channels.ensures (chain_broken _ _ c.in_err-count.ensures))

pub returns : goal.returns
unfolding heading
returns c = chain_on _ _ _ c.in_ok-channels.ensures (chain_on _ _ _ c.in_ok-count.ensures c.counted_words.ensures)
