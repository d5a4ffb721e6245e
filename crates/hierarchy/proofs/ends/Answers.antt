use Rattle.std.proofs.Common.{rules, ◌≡◌, refl, true, List, ℕ, Option, Some, None}
use lib.Dec.{eqb}
use lib.Pointwise.{pointwise}
use Rattle.words.specs.declared.Word.{Word}
use Rattle.words.specs.Words.{words}
use Rattle.words.specs.Met.{Next}
use Rattle.headings.specs.Keywords.{motion_word}
use Rattle.headings.proofs.HeadingLaws.{test_is}
use Rattle.hierarchy.specs.Hierarchy.{ends}
use Rattle.hierarchy.proofs.ends.Goals as goal

told : (s : List ℕ) (next : Option Word) {r : _} → Next s next
    → (next ≡ None → r ≡ true) → ((w : Word) → next ≡ Some w → r ≡ pointwise eqb w.bytes.now motion_word) → r ≡ ends (words s)
unfolding ends
told s None none at_end at_word = rw none (at_end refl)
told s (Some w) some at_end at_word = rw some.ahead (test_is w.bytes.now motion_word (at_word w refl) refl)

pub returns : goal.returns
returns c = told c.args.text.now c.next_word.result c.next_word.ensures (λ h. search rules) (λ w h. search rules)
