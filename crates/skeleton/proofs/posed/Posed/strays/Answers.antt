use Rattle.std.proofs.Common.{◌∙◌, length, arith}
use Rattle.base.proofs.CountBelow.{count_most}
use Rattle.matching.proofs.PairNumbers.{pair_number_small}
use Rattle.skeleton.specs.Following.{is_stray}
use Rattle.skeleton.proofs.AnswerLaws.{none_astray, stray_paired, stray_pair, pairs_astray}
use Rattle.skeleton.proofs.posed.Posed.strays.Goals as goal

pub returns-in_err-b : goal.returns-in_err-b
returns-in_err-b c = let s = c.args.self.now in c.from_residual.ensures ∙ none_astray s.parents.now s.pairing.now c.in_err-b.ensures

pub returns-in_err-a : goal.returns-in_err-a
returns-in_err-a c = let s = c.args.self.now in absurd (stray_paired s.parents.now s.pairing.now c.in_ok-b.ensures s.few c.in_err-a.ensures)

pub overflow_cast-result : goal.overflow_cast-result
overflow_cast-result c =
    let s = c.args.self.now in
    let few = s.few in
    omega (arith, c.count_strays.ensures, count_most (length s.pairing.now) (is_stray s.parents.now s.pairing.now))

pub pair_number-requires : goal.pair_number-requires
pair_number-requires c =
    let s = c.args.self.now in
    let few = s.few in
    let pair = stray_pair s.parents.now s.pairing.now c.in_ok-b.ensures c.in_ok-a.ensures in
    (pair.0, omega (arith, pair.1))

pub overflow_cast-result-2 : goal.overflow_cast-result-2
overflow_cast-result-2 c =
    let s = c.args.self.now in
    let few = s.few in
    let pair = stray_pair s.parents.now s.pairing.now c.in_ok-b.ensures c.in_ok-a.ensures in
    omega (arith, c.pair_number.ensures, pair_number_small _ _ pair.0 (omega (arith, pair.1)))

pub returns : goal.returns
returns c =
    let s = c.args.self.now in
    pairs_astray s.parents.now s.pairing.now c.in_ok-b.ensures c.in_ok-a.ensures c.count_strays.ensures c.pair_number.ensures
