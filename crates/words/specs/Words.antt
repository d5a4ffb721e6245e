-- The words of a text: runs of bytes, parted by the bytes 32, 9, 10 and 13.
use Rattle.std.specs.Prelude.{Bool, true, false, ◌||◌, cond, List, [], ◌∷◌, ℕ, eqb}

abbrev pub Words : Type 0
Words = List (List ℕ)

-- does a byte part words?
unfoldable pub is_gap : ℕ → Bool
is_gap b = eqb b 32 || (eqb b 9 || (eqb b 10 || eqb b 13))

-- the bytes before the first that parts words
unfoldable pub run : List ℕ → List ℕ
run [] = []
run (b ∷ s) = cond (is_gap b) [] (b ∷ run s)

-- the words of a text, before which a word has begun or has not: each byte that begins a word begins one that goes on as far as it can
unfoldable pub words_after : Bool → List ℕ → Words
words_after begun [] = []
words_after begun (b ∷ s) = cond (is_gap b) (words_after false s) (cond begun (words_after true s) (run (b ∷ s) ∷ words_after true s))

abbrev pub words : List ℕ → Words
words s = words_after false s
