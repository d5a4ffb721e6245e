-- Past phase one the rule goes on move by move; in it phase one is run to its end first.
use mathlib.Core.Path.{refl, ◌∙◌}
use Rattle.std.proofs.Common.{rules}
use Rattle.moves.proofs.LawsLawful.{roomy}
use Rattle.steering.proofs.LawsSteering.{lawful_past, ended_past}
use Rattle.steering.proofs.conclude.Goals as goal
use Rattle.steering.proofs.conclude.Goals.{then-eq, else-eq}

pub propose_on-requires : goal.propose_on-requires
propose_on-requires c = ((roomy c.requires).0, search rules)

pub go_on-requires : goal.go_on-requires
go_on-requires c =
    elim c.if-eq.branch [
      | then-eq w ↦ rw w.working-is (lawful_past c.requires (search rules) _ w.propose_on.ensures)
      | else-eq w ↦ rw w.working-is c.requires
    ]

pub returns : goal.returns
returns c =
    elim c.if-eq.branch [
      | then-eq w ↦ c.go_on.ensures ∙ rw w.working-is (ended_past c.requires (search rules) _ w.propose_on.ensures)
      | else-eq w ↦ c.go_on.ensures ∙ rw w.working-is refl
    ]
