-- Nothing, or the part after the count.
use Rattle.std.proofs.Common.{rules, ◌≡◌, ℕ, List, length, refl, ap, ◌∙◌}
use native.Mathlib.Omega.{arith}
use Rattle.refusals.proofs.Numbers.{answered_none}
use Rattle.parents.specs.Parents.{parents_in, counted_fault, parents_fault}
use Rattle.parents.proofs.ThirdLaws.{extent_exact, parents_none, parents_some}
use Rattle.parents.proofs.parent_section.read_third.Goals as goal

pub returns-in_default : goal.returns-in_default
returns-in_default c =
    let none : length c.args.third.now ≡ 0 = search rules in
    answered_none _ (parents_fault c.args.n c.args.third.now) (parents_none _ _ none)

-- its count is how many parents it has
pub returns : goal.returns
returns c =
    let third = c.args.third.now in
    let part = c.in-Some.part.now in
    let rest : parents_in third ≡ part = ap (λ (l : List ℕ). parents_in l) c.in-Some.ensures.cases.0 in
    let some : length third ≡ 0 → ⊥ = λ z. omega (arith, z, ap length c.in-Some.ensures.cases.0) in
    let fault : parents_fault c.args.n third ≡ counted_fault c.args.n (length part) part = parents_some c.args.n third some ∙ rw (extent_exact third some c.requires, rest) refl in
    rw fault c.read_parents.ensures
