use Rattle.std.proofs.Common.{◌∙◌, rules}
use borrow.Author.Tests.{tests}
use Rattle.std.proofs.lemmas.Iterator.{YieldsList-from_slice}
use Rattle.std.proofs.lemmas.Iterator.Search.{any_from_yields_List}
use Rattle.names.proofs.KnownLaws.{has_it, known_is}
use Rattle.names.proofs.is_known.Goals as goal

pub returns : goal.returns
returns c =
    any_from_yields_List (has_it c.args.word.now) _ _ _ c.any.ensures.ran (YieldsList-from_slice c.args.joints.now cc) (λ x b q k. search (rules, tests))
    ∙ known_is _ _
