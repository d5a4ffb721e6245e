use Rattle.std.proofs.Common.{◌≡◌, length, rules, arith}
use Rattle.std.proofs.iter.runs.Sources.{ranges}
use borrow.Author.Tests.{eq-eqb, ne_eqb}
use Rattle.base.proofs.Chains.{all_seen}
use Rattle.matching.specs.Matchings.{is_placed, is_matching}
use Rattle.matching.proofs.Offered.is_matching.Goals as goal

pub returns-then-self : goal.returns-then-self
unfolding is_matching
returns-then-self c =
    let s = c.args.self.now in
    let n = s.joints.count in
    let whole : length s.pairing.now ≡ n = omega arith in
    rw (eq-eqb _ _ whole)
    (all_seen n (is_placed n s.bands.now s.pairing.now) c.all.ensures.runs.0.at c.all.result
    (search (rules, ranges)) (search (rules, ranges)) (search (rules, ranges)))

pub returns-else-self : goal.returns-else-self
unfolding is_matching
returns-else-self c =
    let s = c.args.self.now in
    let other : length s.pairing.now ≡ s.joints.count → ⊥ = λ e. omega (arith, e) in
    rw (ne_eqb _ _ other) (search rules)
