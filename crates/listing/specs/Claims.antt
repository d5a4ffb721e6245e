-- What is claimed of the text: it is what settle answers, it is short, a pair stands in it once, and row g's sheet prints as it should.
use Rattle.std.specs.Prelude.{◌≡◌, true, false, List, [], ◌∷◌, ◌++◌, ℕ, ◌≤◌, ◌<◌, length, replicate}
use Rattle.sheet.specs.Format.{joints, label_of}
use Rattle.sheet.specs.Square.{square_of}
use Rattle.matching.specs.Matchings.{partner}
use Rattle.calls.specs.Calls.{settle_answer, partners_of}
use Rattle.listing.specs.Text.{is_lower, none_text, refused_text}
use Rattle.listing.specs.Sheets.{answer_text, buffer, sheet_text}

-- the call settle's own answer for the sheet, in words
abbrev pub TextIsSettles : Type 0
TextIsSettles = (s : List ℕ) → sheet_text s ≡ answer_text (label_of s) (partners_of (joints s) (square_of s) []) (settle_answer s [] buffer)

-- every text fits the buffer
abbrev pub TextShort : Type 0
TextShort = (s : List ℕ) → length (sheet_text s) ≤ 4400

-- a pair has its line at its lower joint, and none at its higher
abbrev pub PairListedOnce : Type 0
PairListedOnce = (m : List ℕ) (a b : ℕ) → a < b → b < 128 → partner m a ≡ b → partner m b ≡ a → (is_lower m a ≡ true) × (is_lower m b ≡ false)

-- row g's sheet, labelled a, b, c, d: its entries are 0: 1 3; 1: 2 0; 2: 3 1; 3: 0 2
abbrev letter : ℕ → List ℕ
letter b = b ∷ replicate 15 0

abbrev entry : ℕ → ℕ → ℕ → List ℕ
entry a b k = a ∷ b ∷ k ∷ []

abbrev pub row_g : List ℕ
row_g =
    4 ∷ letter 97 ++ letter 98 ++ letter 99 ++ letter 100
    ++ (8 ∷ 0 ∷ entry 0 1 1 ++ entry 0 3 2 ++ entry 1 0 2 ++ entry 1 2 1 ++ entry 2 1 2 ++ entry 2 3 1 ++ entry 3 0 1 ++ entry 3 2 2)

-- pairs 2, a b, c d, alone 0
abbrev pub PrintedExample : Type 0
PrintedExample =
    sheet_text row_g
    ≡ 112 ∷ 97 ∷ 105 ∷ 114 ∷ 115 ∷ 32 ∷ 50 ∷ 10
    ∷ 97 ∷ 32 ∷ 98 ∷ 10
    ∷ 99 ∷ 32 ∷ 100 ∷ 10
    ∷ 97 ∷ 108 ∷ 111 ∷ 110 ∷ 101 ∷ 32 ∷ 48 ∷ 10 ∷ []

-- none phase 1; refused 13
abbrev pub PhaseOnePrinted : Type 0
PhaseOnePrinted = none_text 1 ≡ 110 ∷ 111 ∷ 110 ∷ 101 ∷ 32 ∷ 112 ∷ 104 ∷ 97 ∷ 115 ∷ 101 ∷ 32 ∷ 49 ∷ 10 ∷ []

abbrev pub ThirteenPrinted : Type 0
ThirteenPrinted = refused_text 13 ≡ 114 ∷ 101 ∷ 102 ∷ 117 ∷ 115 ∷ 101 ∷ 100 ∷ 32 ∷ 49 ∷ 51 ∷ 10 ∷ []
