-- One step.
use Rattle.std.proofs.Common.{ap, ◌+◌, ◌≤◌, arith}
use Rattle.base.proofs.CountBelow.{count_most}
use Rattle.proposals.proofs.LawsProposals.{one_step}
use Rattle.proposals.proofs.step.Goals as goal

pub overflow_add-made : goal.overflow_add-made
overflow_add-made c =
    let few : c.band_size.result ≤ c.args.n.count = rw c.band_size.ensures (count_most c.args.n.count _) in
    omega (arith, few, c.args.n.few, c.requires.1)

pub returns : goal.returns
returns c =
    λ s a k. one_step _ s _ _ _ a _ k _ c.best_band-k.ensures c.propose_all.ensures c.receive_all.ensures
    (ap (λ x. c.args.made.now.proposals + x) c.band_size.ensures)
