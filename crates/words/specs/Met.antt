-- Words met in their places: a word that must stand there, any words, a count with as many words. Each says which words are left, or none
-- where it is not met.
use Rattle.std.specs.Prelude.{◌≡◌, ◌⊎◌, Bool, true, false, ◌&&◌, cond, List, [], ◌∷◌, ◌++◌, ℕ, zero, suc, ◌≤◌, ◌<◌, leb, length, Some, None}
use Rattle.std.specs.Borrow.{Bor}
use Rattle.std.proofs.Math.Option.{Option, none, some}
use Rattle.sections.specs.Labels.{same_bytes}
use Rattle.writing.specs.Claims.{value_after}
use Rattle.std.specs.Prelude as found
use Rattle.words.specs.declared.Word.{Word}
use Rattle.words.specs.Words.{Words, words}

-- one that must stand there
unfoldable pub keyword : List ℕ → Words → Option Words
keyword key [] = none
keyword key (w ∷ ws) = cond (same_bytes w key) (some ws) none

-- so many words, whatever they are
unfoldable pub any_words : ℕ → Words → Option Words
any_words zero ws = some ws
any_words (suc k) [] = none
any_words (suc k) (w ∷ ws) = any_words k ws

-- a count, of decimal digits only, and as many words
unfoldable pub all_digits : List ℕ → Bool
all_digits [] = true
all_digits (b ∷ w) = (leb 48 b && leb b 57) && all_digits w

unfoldable pub counted : Words → Option Words
counted [] = none
counted (w ∷ ws) = cond (all_digits w) (any_words (value_after 0 w) ws) none

-- IN A TEXT s. The word that comes next, behind gaps, and what follows it
pub record NextWord (s word rest : List ℕ) : Type 0 where
  pub gaps : List ℕ
  pub whole : gaps ++ (word ++ rest) ≡ s
  pub some : 1 ≤ length word
  pub ahead : words s ≡ word ∷ words rest

-- .. or no word is left
abbrev pub Next : List ℕ → found.Option Word → Type 0
Next s None = words s ≡ []
Next s (Some w) = NextWord s w.bytes.now w.rest.now

-- what follows a front of the text
abbrev pub Follows : List ℕ → List ℕ → Type 0
Follows s rest = (front : List ℕ) × (front ++ rest ≡ s)

-- words are met, and those left are the words of what follows; or they are not met
abbrev pub Reaches : List ℕ → found.Option (Bor (List ℕ)) → Option Words → Type 0
Reaches s None left = left ≡ none
Reaches s (Some rest) left = (left ≡ some (words rest.now)) × Follows s rest.now

-- a word that counts at most `most` is digits, and its value is found; any other is either not digits or counts more
abbrev pub CountOf : List ℕ → ℕ → found.Option ℕ → Type 0
CountOf w most None = (all_digits w ≡ false) ⊎ (most < value_after 0 w)
CountOf w most (Some k) = (all_digits w ≡ true) × ((value_after 0 w ≡ k) × (k ≤ most))
