-- Labels as text, byte by byte: 10 ends a line, 32 is a blank. A label is the 16 bytes of a sheet.
use Rattle.std.specs.Prelude.{List, [], ◌∷◌, ◌++◌, ℕ, take}
use Rattle.sections.specs.Labels.{visible_run}

-- a label as shown: its bytes before the first zero
unfoldable pub label_text : List ℕ → List ℕ
label_text label = take (visible_run label) label

-- a line of a label, and of two parted by a blank
unfoldable pub label_line : List ℕ → List ℕ
label_line label = label_text label ++ (10 ∷ [])

unfoldable pub pair_line : List ℕ → List ℕ → List ℕ
pair_line first second = label_text first ++ (32 ∷ label_line second)
