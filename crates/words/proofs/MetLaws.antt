-- Laws of words met in their places, and of counts.
use mathlib.Core.Path.{◌≡◌, refl, ap, ◌∙◌}
use mathlib.Core.Bool.{Bool, true, false, cond}
use mathlib.Core.List.{List, [], ◌∷◌, ◌++◌, append_assoc}
use mathlib.Core.Option.{Option, none, some}
use Prim.Native.Nat.{ℕ, zero, suc, ◌+◌, ◌*◌, ◌-◌, ◌≤◌, ◌<◌}
use native.Mathlib.Omega.{arith}
use lib.ListN.{length, length-append, get_or, drop, drop_of_length-le}
use lib.Seq.{drop-cons}
use native.Mathlib.Numerals.{add-one}
use lib.Dec.{eqb}
use lib.Pointwise.{pointwise, bytes_decides}
use borrow.Author.Tests.{le-leb, lt-leb}
use denote.Ref.{Bor}
use Rattle.std.specs.Prelude.{Some, None}
use Rattle.std.specs.Prelude as found
use Rattle.std.proofs.lemmas.List.{nil_from_length}
use Rattle.base.proofs.Cases.{case, lt_ge}
use Rattle.sections.specs.Labels.{same_bytes}
use Rattle.sections.proofs.LabelLaws.{same_is}
use Rattle.writing.specs.Claims.{value_after}
use Rattle.words.specs.Words.{Words, words}
use Rattle.words.specs.Met.{keyword, any_words, all_digits, counted, NextWord, Follows, Reaches, CountOf}
use Rattle.words.proofs.WordLaws.{words_few}

-- WHAT FOLLOWS what follows
pub follows_all : (s : List ℕ) → Follows s s
follows_all s = ([], refl)

pub follows_on : {s t r : List ℕ} → Follows s t → Follows t r → Follows s r
follows_on h k = (h.0 ++ k.0, append_assoc h.0 k.0 _ ∙ ap (λ (l : List ℕ). h.0 ++ l) k.1 ∙ h.1)

pub follows_length : {s r : List ℕ} → Follows s r → length r ≤ length s
follows_length {s} {r} h = let e = length-append h.0 r in let z = ap length h.1 in omega arith

pub follows_same : {s r : List ℕ} → Follows s r → length r ≡ length s → r ≡ s
follows_same {s} {r} h l =
    let e = length-append h.0 r in
    let z = ap length h.1 in
    rw (nil_from_length h.0 (omega arith)) at h.1

-- what is met in what follows is met in the text
pub reaches_from : {s t : List ℕ} (r : found.Option (Bor (List ℕ))) {left all : Option Words} → Follows s t → all ≡ left → Reaches t r left → Reaches s r all
reaches_from None h e m = e ∙ m
reaches_from (Some rest) h e m = (e ∙ m.0, follows_on h m.1)

-- the library's comparison of slices, as the grammar's
pub pointwise_same : (a b : List ℕ) → pointwise eqb a b ≡ same_bytes a b
pointwise_same a b = same_is (pointwise eqb a b) a b (bytes_decides a b)

-- AT THE NEXT WORD: where there is none, and where there is one
module _ (s : List ℕ) (none_left : words s ≡ []) where
  pub keyword_none : (key : List ℕ) → keyword key (words s) ≡ none
  unfolding keyword
  keyword_none key = rw none_left

  pub any_none : (k : ℕ) → 1 ≤ k → any_words k (words s) ≡ none
  unfolding any_words
  any_none zero h = absurd (omega arith)
  any_none (suc k) h = rw none_left

  pub counted_none : counted (words s) ≡ none
  unfolding counted
  counted_none = rw none_left

module _ {s word rest : List ℕ} (next : NextWord s word rest) where
  pub next_follows : Follows s rest
  next_follows = (next.gaps ++ word, append_assoc next.gaps word rest ∙ next.whole)

  pub next_shorter : length rest < length s
  next_shorter =
      let e = length-append next.gaps (word ++ rest) in
      let d = length-append word rest in
      let z = ap length next.whole in
      let some = next.some in
      omega arith

  pub keyword_is : (key : List ℕ) (met : Bool) → met ≡ same_bytes word key → keyword key (words s) ≡ cond met (some (words rest)) none
  unfolding keyword
  keyword_is key met e = rw (next.ahead, e)

  pub any_next : (k : ℕ) → any_words (suc k) (words s) ≡ any_words k (words rest)
  unfolding any_words
  any_next k = rw next.ahead

  pub counted_is : (most k : ℕ) → CountOf word most (Some k) → counted (words s) ≡ any_words k (words rest)
  unfolding counted
  counted_is most k h = rw (next.ahead, h.0, h.1.0)

-- FEWER WORDS than are asked for
any_short : (k : ℕ) (ws : Words) → length ws < k → any_words k ws ≡ none
unfolding any_words
any_short zero ws h = absurd (omega arith)
any_short (suc k) [] h = refl
any_short (suc k) (w ∷ ws) h = any_short k ws (omega arith)

either_none : (b : Bool) (left : Option Words) → left ≡ none → cond b left none ≡ none
either_none true left e = e
either_none false left e = refl

pub counted_unfit : {s word rest : List ℕ} → NextWord s word rest → CountOf word (length rest) None → counted (words s) ≡ none
unfolding counted
counted_unfit {s} {word} {rest} next h =
    let few = words_few false rest in
    rw next.ahead
    (case h (λ e. rw e) (λ l. either_none (all_digits word) _ (any_short (value_after 0 word) (words rest) (omega arith))))

-- IN THE LOOP over so many words
pub any_end : (count i : ℕ) (ws : Words) → count ≤ i → any_words (count - i) ws ≡ some ws
unfolding any_words
any_end count i ws h = let e : count - i ≡ 0 = omega arith in rw e

pub any_turn : {s word rest : List ℕ} (count i : ℕ) → i < count → NextWord s word rest → any_words (count - i) (words s) ≡ any_words (count - (i + 1)) (words rest)
any_turn count i h next = let n : count - i ≡ suc (count - (i + 1)) = omega arith in rw n (any_next next _)

-- DIGITS, one after the other: a value only grows
value_grows : (v : ℕ) (w : List ℕ) → v ≤ value_after v w
unfolding value_after
value_grows v [] = omega arith
value_grows v (b ∷ w) = let h = value_grows (10 * v + (b - 48)) w in omega arith

module _ (w : List ℕ) (i : ℕ) where
  pub digits_more : i < length w → 48 ≤ get_or w i 0 → get_or w i 0 ≤ 57 → all_digits (drop i w) ≡ all_digits (drop (i + 1) w)
  unfolding all_digits
  digits_more h l u = rw (add-one, drop-cons w i 0, le-leb _ _ l, le-leb _ _ u)

  pub digits_less : i < length w → ((48 ≤ get_or w i 0) × (get_or w i 0 ≤ 57) → ⊥) → all_digits (drop i w) ≡ false
  unfolding all_digits
  digits_less h unfit =
      rw (drop-cons w i 0)
      (case (lt_ge (get_or w i 0) 48) (λ l. rw (lt-leb _ _ l)) (λ g. case (lt_ge 57 (get_or w i 0)) (λ u. rw (le-leb _ _ g, lt-leb _ _ u)) (λ d. absurd (unfit (g, d)))))

  pub digits_end : length w ≤ i → all_digits (drop i w) ≡ true
  unfolding all_digits
  digits_end h = rw (drop_of_length-le w h)

  pub value_more : (v : ℕ) → i < length w → value_after v (drop i w) ≡ value_after (10 * v + (get_or w i 0 - 48)) (drop (i + 1) w)
  unfolding value_after
  value_more v h = rw (add-one, drop-cons w i 0)

  pub value_end : (v : ℕ) → length w ≤ i → value_after v (drop i w) ≡ v
  unfolding value_after
  value_end v h = rw (drop_of_length-le w h)

  -- what a digit makes of it is no more than it comes to
  pub value_reaches : (v : ℕ) → i < length w → 10 * v + (get_or w i 0 - 48) ≤ value_after v (drop i w)
  value_reaches v h =
      let more = value_more v h in
      let grown = value_grows (10 * v + (get_or w i 0 - 48)) (drop (i + 1) w) in
      omega arith
