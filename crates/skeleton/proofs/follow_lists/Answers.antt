use Rattle.std.proofs.Common.{◌≡◌, ◌∙◌, ◌≤◌, length, true, sym, arith}
use Rattle.matching.proofs.MatchingTest.{as_many}
use Rattle.matching.specs.Matchings.{is_matching}
use Rattle.skeleton.proofs.AnswerLaws.{eighteen, ten, judged, parents_lower, parents_many}
use Rattle.skeleton.proofs.follow_lists.Goals as goal
use Rattle.skeleton.proofs.follow_lists.Goals.{Else-not-is_matching}

matches : (c : Else-not-is_matching) → let o = c.args.offered.now in is_matching o.joints.count o.bands.now o.pairing.now ≡ true
matches c = sym c.is_matching.ensures ∙ c.if-not-is_matching.false

pub returns-in_default : goal.returns-in_default
returns-in_default c =
    let o = c.args.offered.now in
    eighteen o.joints.count o.bands.now c.args.third.now o.pairing.now c.in_default.ensures.cases

pub returns-then-not-is_matching : goal.returns-then-not-is_matching
returns-then-not-is_matching c =
    let o = c.args.offered.now in
    ten o.joints.count o.bands.now c.args.third.now o.pairing.now _ c.in-Some.ensures.cases.0
    (sym c.is_matching.ensures ∙ c.if-not-is_matching.true)

pub invariant_of-posed : goal.invariant_of-posed
invariant_of-posed c =
    let o = c.args.offered.now in
    let n = o.joints.count in
    let t = o.bands.now in
    let is = c.in-Some.ensures.cases.0 in
    let matching = matches (goal.at.invariant_of-posed c).Else-not-is_matching in
    let joints-few = o.joints.few in
    let small : length o.pairing.now ≤ 128 = omega (arith, as_many n t o.pairing.now matching) in
    record {
      lower = parents_lower n t c.args.third.now o.pairing.now _ is c.requires;
      one_each = parents_many n t c.args.third.now o.pairing.now _ is c.requires matching;
      few = small;
    }

pub returns : goal.returns
returns c =
    let o = c.args.offered.now in
    judged o.joints.count o.bands.now c.args.third.now o.pairing.now _ c.in-Some.ensures.cases.0
    (matches (goal.at.returns c).Else-not-is_matching) c.strays.ensures
