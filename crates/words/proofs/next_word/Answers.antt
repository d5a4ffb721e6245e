use Rattle.std.proofs.Common.{rules}
use Rattle.words.proofs.WordLaws.{words_behind, rest_is, none_left, next_is}
use Rattle.words.proofs.next_word.Goals as goal

pub returns-then-is_empty : goal.returns-then-is_empty
returns-then-is_empty c =
    let begun = c.gaps.ensures in
    let rest = rest_is c.args.text.now c.gaps.result in
    none_left _ _ (words_behind _ _ begun.within begun.before) rest (search rules)

pub returns : goal.returns
returns c =
    let begun = c.gaps.ensures in
    let parts = c.split_at.ensures in
    let rest = rest_is c.args.text.now c.gaps.result in
    next_is _ _ _ (words_behind _ _ begun.within begun.before) rest (search rules) begun.behind
    c.word_length.ensures.value parts.front parts.back
