-- One proposal.
use Rattle.std.proofs.Common.{rules, ◌≤◌, ◌<◌, ltb, eqb}
use Rattle.sheet.specs.Square.{at}
use Rattle.proposals.proofs.LawsProposals.{proposed_alone, proposed_tied}
use Rattle.proposals.proofs.propose.Goals as goal

pub returns-then-standing_at-ge2 : goal.returns-then-standing_at-ge2
returns-then-standing_at-ge2 c =
    let k = at c.args.bands.now c.args.q c.args.p in
    let many : 2 ≤ c.standing_at.result = c.if-standing_at-ge2.true in
    proposed_tied _ _ _ _ _ (c.strike.ensures (λ b. ltb k b) (λ b r p. search rules)) (rw c.standing_at.ensures at many)
    (c.strike-then-standing_at-ge2.ensures (λ b. eqb b k) (λ b r p. search rules))

pub returns-else-standing_at-ge2 : goal.returns-else-standing_at-ge2
returns-else-standing_at-ge2 c =
    let k = at c.args.bands.now c.args.q c.args.p in
    let few : c.standing_at.result < 2 = c.if-standing_at-ge2.false in
    proposed_alone _ _ _ _ _ (c.strike.ensures (λ b. ltb k b) (λ b r p. search rules)) (rw c.standing_at.ensures at few)
