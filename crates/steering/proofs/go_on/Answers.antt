-- The rule goes on while the working has not ended.
use Rattle.std.proofs.Common.{rules, ◌≡◌, None, ◌∙◌}
use Rattle.moves.proofs.LawsLawful.{roomy, lawful_on}
use Rattle.steering.proofs.LawsSteering.{no_fault, rule_ends, rule_spent, rule_unrefused, rule_on}
use Rattle.steering.proofs.go_on.Goals as goal

pub returns-in_default : goal.returns-in_default
returns-in_default c =
    let i = c.loop.invariant in
    let nobody : c.loop.working.next ≡ None = search rules in
    rule_ends i.0 _ nobody ∙ i.1

pub make_move-requires : goal.make_move-requires
make_move-requires c = roomy c.loop.invariant.0

pub unwrap-requires : goal.unwrap-requires
unwrap-requires c = no_fault _ (rule_unrefused c.loop.invariant.0 _ c.in-Some.is _ _ c.make_move.ensures)

pub loop-preserved : goal.loop-preserved
loop-preserved c =
    let i = c.loop.invariant in
    (lawful_on i.0 _ _ c.make_move.ensures, rule_on i.0 _ c.in-Some.is _ _ c.make_move.ensures _ _ c.loop-test.true ∙ i.1)

pub returns : goal.returns
returns c = let i = c.loop.invariant in rule_spent i.0 _ _ c.loop-test.false ∙ i.1
