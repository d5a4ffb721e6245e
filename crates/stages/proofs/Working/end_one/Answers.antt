-- Phase one's end.
use mathlib.Core.Path.{sym, ◌∙◌}
use Rattle.stages.proofs.LawsStages.{one_none, one_lists, one_two}
use Rattle.stages.proofs.Working.end_one.Goals as goal

pub returns-then-some_emptied : goal.returns-then-some_emptied
returns-then-some_emptied c = one_none c.args.self.now _ (sym (c.some_emptied.ensures _ _ _ _ _) ∙ c.if-some_emptied.true) c.end.ensures

pub returns-then-self : goal.returns-then-self
returns-then-self c =
    one_two c.args.self.now _ _ (sym (c.some_emptied.ensures _ _ _ _ _) ∙ c.if-some_emptied.false) c.if-self.true c.set_aside-self.ensures c.in_two.ensures

pub returns-else-self : goal.returns-else-self
returns-else-self c = one_lists c.args.self.now _ (sym (c.some_emptied.ensures _ _ _ _ _) ∙ c.if-some_emptied.false) c.if-self.false c.end-else-self.ensures
