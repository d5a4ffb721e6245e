-- What stands at fixed places of a hierarchy: what opens a block or an End Site, and what a word begins in a block.
use Rattle.std.specs.Prelude.{cond, List, ℕ, Some, None}
use Rattle.std.specs.Prelude as found
use Rattle.std.proofs.Math.Option.{Option, bind}
use Rattle.sections.specs.Labels.{same_bytes}
use Rattle.words.specs.Words.{Words}
use Rattle.words.specs.Met.{keyword, any_words, counted}
use Rattle.headings.specs.declared.Child.{Child}
use Rattle.headings.specs.declared.Child.TheVariants.{Close, End, Joint}
use Rattle.headings.specs.Keywords.{joint_word, open_word, offset_word, channels_word, end_word, site_word, close_word}

-- an opening brace, OFFSET and three words; then, in a block, CHANNELS with a count and as many words
unfoldable pub opening : Words → Option Words
opening ws = bind (keyword open_word ws) (λ on. bind (keyword offset_word on) (any_words 3))

unfoldable pub heading : Words → Option Words
heading ws = bind (opening ws) (λ on. bind (keyword channels_word on) counted)

-- an End Site behind the word End: in braces, OFFSET with three words alone
unfoldable pub site : Words → Option Words
site ws = bind (keyword site_word ws) (λ on. bind (opening on) (keyword close_word))

-- the block's end, an End Site, a JOINT, or nothing that may stand there
unfoldable pub child_of : List ℕ → found.Option Child
child_of w =
    cond (same_bytes w close_word) (Some Close)
    (cond (same_bytes w end_word) (Some End)
    (cond (same_bytes w joint_word) (Some Joint) None))
