-- The text that `mirror` prints: for a pairing m of joints whose labels are label 0, label 1 and so on, and for the other answers.
use Rattle.std.specs.Prelude.{◌≡◌, Bool, false, not, ◌&&◌, cond, List, [], ◌∷◌, ◌++◌, ℕ, ◌+◌, ◌*◌, ◌≤◌, ◌<◌, ltb, length}
use Rattle.base.specs.Below.{joined}
use Rattle.matching.specs.Matchings.{partner, is_alone, pair_count, alone_count}
use Rattle.writing.specs.Decimal.{number_line}
use Rattle.labels.specs.Lines.{label_line, pair_line}

-- "pairs ", "alone ", "none phase ", "refused "
abbrev pub pairs_word : List ℕ
pairs_word = 112 ∷ 97 ∷ 105 ∷ 114 ∷ 115 ∷ 32 ∷ []

abbrev pub alone_word : List ℕ
alone_word = 97 ∷ 108 ∷ 111 ∷ 110 ∷ 101 ∷ 32 ∷ []

abbrev pub none_word : List ℕ
none_word = 110 ∷ 111 ∷ 110 ∷ 101 ∷ 32 ∷ 112 ∷ 104 ∷ 97 ∷ 115 ∷ 101 ∷ 32 ∷ []

abbrev pub refused_word : List ℕ
refused_word = 114 ∷ 101 ∷ 102 ∷ 117 ∷ 115 ∷ 101 ∷ 100 ∷ 32 ∷ []

-- is i the lower joint of its pair?
abbrev pub is_lower : List ℕ → ℕ → Bool
is_lower m i = not (is_alone m i) && ltb i (partner m i)

-- what joint i adds to the pairs' lines, and to the lines of the unpaired
unfoldable pub pair_part : (ℕ → List ℕ) → List ℕ → ℕ → List ℕ
pair_part label m i = cond (is_lower m i) (pair_line (label i) (label (partner m i))) []

unfoldable pub alone_part : (ℕ → List ℕ) → List ℕ → ℕ → List ℕ
alone_part label m i = cond (is_alone m i) (label_line (label i)) []

-- a pairing: the count of pairs, the pairs by lower joint, the count of unpaired joints, their labels
unfoldable pub pairing_text : (ℕ → List ℕ) → List ℕ → List ℕ
pairing_text label m =
    number_line pairs_word (pair_count m)
    ++ (joined (length m) (pair_part label m) ++ (number_line alone_word (alone_count m) ++ joined (length m) (alone_part label m)))

-- no pairing, with the phase
abbrev pub none_text : ℕ → List ℕ
none_text phase = number_line none_word phase

-- a refusal, with its number
abbrev pub refused_text : ℕ → List ℕ
refused_text number = number_line refused_word number

-- the labels of n joints lie on the sheet s from one place on, before the rankings
pub record Labelled (s : List ℕ) (labels rankings n : ℕ) : Type 0 where
  pub few : n ≤ 128
  pub fit : labels + 16 * n ≤ rankings
  pub inside : rankings ≤ length s

-- .. and those joints' partners are among them
pub record Listable (s : List ℕ) (labels rankings : ℕ) (m : List ℕ) : Type 0 where
  pub labelled : Labelled s labels rankings (length m)
  pub within : (i : ℕ) → i < length m → is_alone m i ≡ false → partner m i < length m
