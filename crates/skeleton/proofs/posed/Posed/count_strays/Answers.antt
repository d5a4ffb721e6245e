use Rattle.std.proofs.Common.{◌≡◌, ◌∙◌, length, rules, arith}
use Rattle.std.specs.List.{range_with_len}
use Rattle.std.proofs.lemmas.Iterator.{YieldsList-from_range}
use Rattle.std.proofs.lemmas.Iterator.Consumers.{YieldsList-from_filter, count_from_yields_List}
use Rattle.std.proofs.lemmas.List.Sums.{length-filter}
use Rattle.base.proofs.Chains.{count_range}
use Rattle.skeleton.specs.Following.{is_stray, stray_count}
use Rattle.skeleton.proofs.posed.Posed.count_strays.Goals as goal

pub returns : goal.returns
returns c =
    let s = c.args.self.now in
    let n = length s.pairing.now in
    let test = is_stray s.parents.now s.pairing.now in
    let all = YieldsList-from_range 0 n n c.filter.ensures.source (omega arith) in
    let counted : c.count.result ≡ stray_count s.parents.now s.pairing.now =
    count_from_yields_List c.filter.result c.count.result c.count.ensures.ran
    (YieldsList-from_filter _ test all c.filter.ensures.closure (λ x r q k. search rules))
    ∙ length-filter test (range_with_len 0 n)
    ∙ count_range n test in
    omega arith
