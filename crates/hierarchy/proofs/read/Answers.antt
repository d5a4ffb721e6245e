use Rattle.std.proofs.Common.{◌≡◌, Err, rules}
use Rattle.words.specs.Words.{words}
use Rattle.words.specs.Met.{keyword, Reaches}
use Rattle.headings.specs.Keywords.{hierarchy_word}
use Rattle.hierarchy.proofs.Asked.{some_met, none_met}
use Rattle.hierarchy.proofs.RootLaws.{whole_broken, whole_answered}
use Rattle.hierarchy.proofs.read.Goals as goal

pub returns-in_err-first : goal.returns-in_err-first
returns-in_err-first c = λ fresh.
    let text = c.args.text.now in
    let none = none_met (λ r. Reaches text r (keyword hierarchy_word (words text))) _ _ c.in_err-first.ensures.value c.keyword.ensures in
    let passed : c.from_residual.result ≡ Err c.in_err-first.field-0.0 = search rules in
    rw (passed, none.1) (whole_broken _ none.0)

pub returns : goal.returns
returns c = λ fresh.
    let text = c.args.text.now in
    let first = some_met (λ r. Reaches text r (keyword hierarchy_word (words text))) _ _ c.in_ok-first.ensures.value c.keyword.ensures in
    whole_answered fresh first c.roots.result c.roots.new.joints.list.items c.roots.ensures
