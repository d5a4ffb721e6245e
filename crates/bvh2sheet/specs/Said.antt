-- What is said of a refusal, on a line: "refused " and its number, as mirror says it.
use Rattle.std.specs.Prelude.{List, [], ◌∷◌, ℕ}
use Rattle.writing.specs.Decimal.{number_line}

abbrev pub refused_word : List ℕ
refused_word = 114 ∷ 101 ∷ 102 ∷ 117 ∷ 115 ∷ 101 ∷ 100 ∷ 32 ∷ []

abbrev pub refused_line : ℕ → List ℕ
refused_line number = number_line refused_word number
