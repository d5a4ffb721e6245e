use Rattle.std.proofs.Common.{◌∙◌, arith}
use Rattle.words.proofs.MetLaws.{any_none, any_end, any_turn, next_follows, follows_on}
use Rattle.words.proofs.any_words.Goals as goal

pub returns-in_err-rest : goal.returns-in_err-rest
returns-in_err-rest c = rw c.from_residual.ensures (c.loop.invariant.same ∙ any_none _ c.in_err-rest.ensures _ (omega arith))

pub loop-preserved : goal.loop-preserved
loop-preserved c =
    let next = c.in_ok-rest.ensures in
    record {
      same = c.loop.invariant.same ∙ any_turn _ _ (omega arith) next;
      follows = follows_on c.loop.invariant.follows (next_follows next);
    }

pub returns : goal.returns
returns c = (c.loop.invariant.same ∙ any_end _ _ _ (omega arith), c.loop.invariant.follows)
