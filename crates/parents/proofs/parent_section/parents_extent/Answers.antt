-- Each way out is a law of its own.
use Rattle.std.proofs.Common.{rules, ◌≡◌, ℕ, suc, List, length, get_or, sym, ap, ◌∙◌}
use native.Mathlib.Omega.{arith}
use Rattle.refusals.proofs.Numbers.{answered_none, answered_refused}
use Rattle.refusals.specs.declared.Refusal.TheVariants.{SheetCutShort, BytesAfterSheet}
use Rattle.parents.specs.Parents.{extent_fault}
use Rattle.parents.proofs.ThirdLaws.{extent_none, extent_short, extent_long, extent_whole}
use Rattle.parents.proofs.parent_section.parents_extent.Goals as goal
use Rattle.parents.proofs.parent_section.parents_extent.Goals.{After-from-count}

-- where the section is there: its length, and its count
long : (c : After-from-count) → length c.args.third.now ≡ suc (length c.in-Some.part.now)
long c = ap length c.in-Some.ensures.cases.0

counts : (c : After-from-count) → get_or c.args.third.now 0 0 ≡ c.from-count.result
counts c = ap (λ (l : List ℕ). get_or l 0 0) c.in-Some.ensures.cases.0 ∙ sym c.from-count.ensures

pub returns-in_default : goal.returns-in_default
returns-in_default c =
    let none : length c.args.third.now ≡ 0 = search rules in
    answered_none _ (extent_fault c.args.third.now) (extent_none _ none)

pub returns-then-part-count : goal.returns-then-part-count
returns-then-part-count c =
    let at = (goal.at.returns-then-part-count c).After-from-count in
    answered_refused _ (extent_fault c.args.third.now) SheetCutShort
    (sym (extent_short c.args.third.now (λ z. omega (arith, long at)) (omega (arith, long at, counts at, c.if-part-count.true))))

pub returns-then-count-part : goal.returns-then-count-part
returns-then-count-part c =
    let at = (goal.at.returns-then-count-part c).After-from-count in
    answered_refused _ (extent_fault c.args.third.now) BytesAfterSheet
    (sym (extent_long c.args.third.now (omega (arith, long at, counts at, c.if-count-part.true))))

pub returns : goal.returns
returns c =
    let at = (goal.at.returns c).After-from-count in
    answered_none _ (extent_fault c.args.third.now)
    (extent_whole c.args.third.now (omega (arith, long at, counts at, c.if-part-count.false, c.if-count-part.false)))
