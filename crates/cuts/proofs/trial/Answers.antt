-- A trial.
use Rattle.std.proofs.Common.{rules, eqb}
use Rattle.cuts.proofs.LawsCuts.{one_trial}
use Rattle.cuts.proofs.trial.Goals as goal

pub returns : goal.returns
returns c = one_trial _ _ _ c.worst_band-k.ensures (c.strike.ensures (λ b. eqb b c.worst_band-k.result) (λ b r p. search rules)) c.run_out.ensures
