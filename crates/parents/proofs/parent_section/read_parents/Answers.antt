-- Another count, or the parents decide.
use Rattle.std.proofs.Common.{◌≡◌, length, sym, ◌∙◌}
use Rattle.refusals.proofs.Numbers.{answered_none, answered_refused}
use Rattle.refusals.specs.declared.Refusal.TheVariants.{BadParents}
use Rattle.parents.specs.Parents.{counted_fault}
use Rattle.parents.proofs.ThirdLaws.{other_count, by_parents}
use Rattle.parents.proofs.parent_section.read_parents.Goals as goal
use Rattle.parents.proofs.parent_section.read_parents.Goals.{then-part-n-via-then-part-n, then-part-n-via-else-part-n+then-some_bad}

pub returns-then-part-n : goal.returns-then-part-n
returns-then-part-n c =
    let a = c.args in
    let bad : counted_fault a.n (length a.part.now) a.part.now ≡ 18 =
    elim c.then-part-n.branch [
      | then-part-n-via-then-part-n w ↦ other_count _ _ _ w.if-part-n.true
      | then-part-n-via-else-part-n+then-some_bad w ↦
          by_parents _ _ _ w.if-part-n.false (sym w.some_bad.ensures ∙ w.if-some_bad.true)
    ] in
    answered_refused _ (counted_fault a.n (length a.part.now) a.part.now) BadParents (sym bad)

pub returns : goal.returns
returns c =
    let a = c.args in
    answered_none _ (counted_fault a.n (length a.part.now) a.part.now)
    (by_parents _ _ _ c.if-part-n.false (sym c.some_bad.ensures ∙ c.if-some_bad.false))
