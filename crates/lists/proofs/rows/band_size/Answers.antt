-- How many of a list stand in a band, counted.
use Rattle.std.proofs.Common.{rules, eqb}
use Rattle.lists.proofs.rows.band_size.Goals as goal

pub returns : goal.returns
returns c = c.count.ensures (λ b. eqb b c.args.k) (λ b r p. search rules)
