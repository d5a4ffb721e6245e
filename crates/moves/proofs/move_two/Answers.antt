-- A move in phase two.
use mathlib.Core.Path.{sym, ◌∙◌}
use Rattle.base.proofs.Tests.{said_yes, said_no}
use Rattle.moves.proofs.LawsMoves.{refused_two, moved_two, none_two}
use Rattle.moves.proofs.move_two.Goals as goal

pub returns-then-not-may_cut : goal.returns-then-not-may_cut
returns-then-not-may_cut c = refused_two _ c.args.working.now c.args.working.now c.requires.1 (said_no c.may_cut.ensures c.if-not-may_cut.true)

pub returns-then-cut : goal.returns-then-cut
returns-then-cut c =
    let may = said_yes c.may_cut.ensures c.if-not-may_cut.false in
    let after = c.cut.ensures in
    moved_two _ c.args.working.now _ c.requires.1 _ may after.lists_after (sym c.if-cut.true ∙ after.value) c.in_two.ensures

pub returns-else-cut : goal.returns-else-cut
returns-else-cut c =
    let may = said_yes c.may_cut.ensures c.if-not-may_cut.false in
    let after = c.cut.ensures in
    none_two _ c.args.working.now _ c.requires.1 _ may after.lists_after (sym c.if-cut.false ∙ after.value) c.end.ensures
