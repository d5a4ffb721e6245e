-- A list's length, counted.
use Rattle.std.proofs.Common.{rules, ltb}
use Rattle.lists.proofs.rows.list_length.Goals as goal

pub returns : goal.returns
returns c = c.count.ensures (λ b. ltb 0 b) (λ b r p. search rules)
