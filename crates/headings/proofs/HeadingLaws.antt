-- Laws of words met one after the other, and of what a word begins in a block.
use mathlib.Core.Path.{◌≡◌, refl, ap, ◌∙◌}
use mathlib.Core.Bool.{Bool, false}
use mathlib.Core.List.{List}
use mathlib.Core.Option.{Option, none, some, bind}
use Prim.Native.Nat.{ℕ}
use native.Mathlib.Omega.{arith}
use lib.Dec.{eqb}
use lib.Pointwise.{pointwise}
use denote.Ref.{Bor}
use Rattle.std.specs.Prelude as found
use Rattle.std.proofs.Common.{length, get_or}
use Rattle.std.proofs.lemmas.List.{ext_get_or}
use Rattle.words.specs.Words.{Words, words}
use Rattle.words.specs.Met.{Follows, Reaches}
use Rattle.sections.specs.Labels.{same_bytes}
use Rattle.words.proofs.MetLaws.{pointwise_same, reaches_from}
use Rattle.base.proofs.Cases.{case, eq_ne}
use Rattle.base.proofs.Tests.{not_so}
use Rattle.sections.proofs.LabelLaws.{same_equal}
use Rattle.headings.specs.declared.Child.TheVariants.{Close, End, Joint}
use Rattle.headings.specs.Keywords.{end_word, joint_word, close_word}
use Rattle.headings.specs.Headings.{child_of}

-- A CHAIN of words: where the first are met, the rest decides from what follows them; where they are not met, nothing is
module _ (first : Option Words) (rest : Words → Option Words) where
  pub chain_on : {s t : List ℕ} (r : found.Option (Bor (List ℕ))) → (first ≡ some (words t)) × Follows s t → Reaches t r (rest (words t))
      → Reaches s r (bind first rest)
  unfolding bind
  chain_on r h m = reaches_from r h.1 (rw h.0) m

  pub chain_broken : first ≡ none → bind first rest ≡ none
  unfolding bind
  chain_broken e = rw e

-- IS A WORD a keyword? By the code's comparison with its bytes.
pub test_is : (w : List ℕ) {key : List ℕ} {met : Bool} (word : List ℕ) → met ≡ pointwise eqb w key → key ≡ word → met ≡ same_bytes w word
test_is w {key} word e k = e ∙ pointwise_same w key ∙ rw k refl

-- WHAT A WORD BEGINS, by its length and its bytes
spells_close : (w : List ℕ) → length w ≡ 1 → get_or w 0 0 ≡ 125 → w ≡ close_word
spells_close w n a = ext_get_or 0 w close_word n (λ i l. let e : i ≡ 0 = omega arith in rw e a)

spells_end : (w : List ℕ) → length w ≡ 3 → get_or w 0 0 ≡ 69 → get_or w 1 0 ≡ 110 → get_or w 2 0 ≡ 100 → w ≡ end_word
spells_end w n a b c = ext_get_or 0 w end_word n (λ i l.
    case (eq_ne i 0) (λ e. rw e a) (λ p. case (eq_ne i 1) (λ e. rw e b) (λ q. let e : i ≡ 2 = omega arith in rw e c)))

spells_joint : (w : List ℕ) → length w ≡ 5 → get_or w 0 0 ≡ 74 → get_or w 1 0 ≡ 79 → get_or w 2 0 ≡ 73 → get_or w 3 0 ≡ 78 → get_or w 4 0 ≡ 84 → w ≡ joint_word
spells_joint w n a b c d f = ext_get_or 0 w joint_word n (λ i l.
    case (eq_ne i 0) (λ e. rw e a) (λ p. case (eq_ne i 1) (λ e. rw e b) (λ q. case (eq_ne i 2) (λ e. rw e c)
    (λ r. case (eq_ne i 3) (λ e. rw e d) (λ s. let e : i ≡ 4 = omega arith in rw e f)))))

module _ (w : List ℕ) where
  pub child_close : length w ≡ 1 → get_or w 0 0 ≡ 125 → found.Some Close ≡ child_of w
  unfolding child_of same_bytes
  child_close n a = rw (spells_close w n a) refl

  pub child_end : length w ≡ 3 → get_or w 0 0 ≡ 69 → get_or w 1 0 ≡ 110 → get_or w 2 0 ≡ 100 → found.Some End ≡ child_of w
  unfolding child_of same_bytes
  child_end n a b c = rw (spells_end w n a b c) refl

  pub child_joint : length w ≡ 5 → get_or w 0 0 ≡ 74 → get_or w 1 0 ≡ 79 → get_or w 2 0 ≡ 73 → get_or w 3 0 ≡ 78 → get_or w 4 0 ≡ 84
      → found.Some Joint ≡ child_of w
  unfolding child_of same_bytes
  child_joint n a b c d e = rw (spells_joint w n a b c d e) refl

  pub child_none : (length w ≡ 1 → get_or w 0 0 ≡ 125 → ⊥)
      → (length w ≡ 3 → get_or w 0 0 ≡ 69 → get_or w 1 0 ≡ 110 → get_or w 2 0 ≡ 100 → ⊥)
      → (length w ≡ 5 → get_or w 0 0 ≡ 74 → get_or w 1 0 ≡ 79 → get_or w 2 0 ≡ 73 → get_or w 3 0 ≡ 78 → get_or w 4 0 ≡ 84 → ⊥)
      → found.None ≡ child_of w
  unfolding child_of
  child_none c e j =
      let no_close : same_bytes w close_word ≡ false = not_so _ (λ h. let s = same_equal w close_word h in c (ap length s) (ap (λ l. get_or l 0 0) s)) in
      let no_end : same_bytes w end_word ≡ false = not_so _ (λ h. let s = same_equal w end_word h in
      e (ap length s) (ap (λ l. get_or l 0 0) s) (ap (λ l. get_or l 1 0) s) (ap (λ l. get_or l 2 0) s)) in
      let no_joint : same_bytes w joint_word ≡ false = not_so _ (λ h. let s = same_equal w joint_word h in
      j (ap length s) (ap (λ l. get_or l 0 0) s) (ap (λ l. get_or l 1 0) s) (ap (λ l. get_or l 2 0) s) (ap (λ l. get_or l 3 0) s) (ap (λ l. get_or l 4 0) s)) in
      rw (no_close, no_end, no_joint) refl

-- what `child_of` is proved by
pub ruleset children = (child_close, child_end, child_joint, child_none)
