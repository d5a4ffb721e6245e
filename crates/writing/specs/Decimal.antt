-- Numbers below 1000 in decimal: hundreds from 100 on, tens from 10 on, ones.
use Rattle.std.specs.Prelude.{cond, List, [], ◌∷◌, ◌++◌, ℕ, ◌+◌, ◌/◌, ◌%◌, leb}

abbrev pub digit : ℕ → ℕ
digit d = 48 + d

unfoldable pub decimal : ℕ → List ℕ
decimal k =
    cond (leb 100 k) (digit (k / 100) ∷ []) [] ++ (cond (leb 10 k) (digit (k / 10 % 10) ∷ []) [] ++ (digit (k % 10) ∷ []))

-- a line of a word and a number; 10 ends it
unfoldable pub number_line : List ℕ → ℕ → List ℕ
number_line word k = word ++ (decimal k ++ (10 ∷ []))
