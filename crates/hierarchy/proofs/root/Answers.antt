use Rattle.std.proofs.Common.{◌≡◌, Err, rules}
use Rattle.words.specs.Words.{words}
use Rattle.words.specs.Met.{keyword, Reaches}
use Rattle.headings.specs.Keywords.{root_word}
use Rattle.hierarchy.proofs.Asked.{some_met, none_met}
use Rattle.hierarchy.proofs.RootLaws.{root_broken, root_answered, root_shorter}
use Rattle.hierarchy.proofs.root.Goals as goal

pub returns-in_err-name-clause-answered : goal.returns-in_err-name-clause-answered
returns-in_err-name-clause-answered c =
    let text = c.args.text.now in
    let none = none_met (λ r. Reaches text r (keyword root_word (words text))) _ _ c.in_err-name.ensures.value c.keyword.ensures in
    let passed : c.from_residual.result ≡ Err c.in_err-name.field-0.0 = search rules in
    rw (passed, none.1) (λ f l. root_broken _ _ c.args.joints.now.good none.0 f)

pub returns-clause-answered : goal.returns-clause-answered
returns-clause-answered c =
    let text = c.args.text.now in
    let name = some_met (λ r. Reaches text r (keyword root_word (words text))) _ _ c.in_ok-name.ensures.value c.keyword.ensures in
    root_answered _ name _ _ c.block.ensures

pub returns-clause-shorter : goal.returns-clause-shorter
returns-clause-shorter c =
    let text = c.args.text.now in
    let name = some_met (λ r. Reaches text r (keyword root_word (words text))) _ _ c.in_ok-name.ensures.value c.keyword.ensures in
    root_shorter _ name _ _ c.block.ensures
