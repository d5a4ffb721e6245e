use mathlib.Core.Path.{◌∙◌}
use native.Mathlib.Omega.{arith}
use native.Mathlib.Nat.{sub-zero}
use Rattle.roommates.specs.declared.Stage.TheVariants.{Proposing}
use Rattle.roommates.specs.PhaseOne.{nobody}
use Rattle.base.proofs.FirstBelow.{first_found}
use Rattle.proposals.proofs.LawsPhaseOne.{square_small, step_few, run_ends, run_steps, turns_over, all_turns}
use Rattle.proposals.proofs.run_on.Goals as goal

pub overflow_mul-turns : goal.overflow_mul-turns
overflow_mul-turns c = omega (arith, square_small _ c.args.n.few)

pub overflow_add-turns : goal.overflow_add-turns
overflow_add-turns c = omega (arith, square_small _ c.args.n.few)

pub loop-turn-init : goal.loop-turn-init
loop-turn-init c = record { few = omega (arith, c.requires); runs = λ s a k. rw sub-zero }

pub returns-in_default : goal.returns-in_default
returns-in_default c =
    λ s a k. run_ends _ _ _ _ c.loop-turn-test.true (first_found _ _ c.in_default.ensures)
    ∙ c.loop-turn.invariant.runs s a k
    ∙ all_turns _ _

pub step-requires : goal.step-requires
step-requires c =
    let low = first_found _ _ c.in-Some.ensures in
    let few = square_small _ c.args.n.few in
    (omega (arith, c.args.n.few, low.0), omega (arith, few, c.loop-turn.invariant.few, c.loop-turn-test.true))

pub loop-turn-preserved : goal.loop-turn-preserved
loop-turn-preserved c =
    let inv = c.loop-turn.invariant in
    let few = step_few _ _ _ _ _ _ _ _ _ (c.step.ensures Proposing nobody 0) in
    record {
      few = omega (arith, few, inv.few, c.args.n.few);
      runs = λ s a k. run_steps _ _ _ _ c.loop-turn-test.true (first_found _ _ c.in-Some.ensures) (c.step.ensures s a k) ∙ inv.runs s a k;
    }

pub returns : goal.returns
returns c = λ s a k. turns_over _ _ _ _ c.loop-turn-test.false ∙ c.loop-turn.invariant.runs s a k ∙ all_turns _ _
