-- What the words of a text are, in the request's words beside the function that finds them.
use Rattle.std.specs.Prelude.{◌≡◌, ◌⊎◌, ◌↔◌, true, false, List, [], ◌∷◌, ◌++◌, ℕ, ◌<◌, length, get_or}
use Rattle.words.specs.Words.{Words, is_gap, words}

-- The text s is these words, parted by one or more gaps, with gaps before and behind them or none. A word is one or more bytes, none of which is
-- a gap, and behind it a gap comes or the end.
pub data Parted : List ℕ → Words → Type 0 where
  nothing : Parted [] []
  gap : {b : ℕ} {s : List ℕ} {ws : Words} → is_gap b ≡ true → Parted s ws → Parted (b ∷ s) ws
  word : {b : ℕ} {w s : List ℕ} {ws : Words} → ((i : ℕ) → i < length (b ∷ w) → is_gap (get_or (b ∷ w) i 0) ≡ false)
      → (s ≡ []) ⊎ (is_gap (get_or s 0 0) ≡ true) → Parted s ws → Parted (b ∷ w ++ s) ((b ∷ w) ∷ ws)

abbrev pub WordsRule : Type 0
WordsRule = (s : List ℕ) (ws : Words) → Parted s ws ↔ words s ≡ ws
