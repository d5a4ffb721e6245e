-- What is shown of a label, said of its bytes.
use Rattle.std.specs.Prelude.{◌≡◌, true, List, ◌++◌, ℕ, ◌-◌, ◌≤◌, ◌<◌, length, get_or, replicate}
use Rattle.sections.specs.Labels.{label_ok}
use Rattle.labels.specs.Lines.{label_text}

-- the label is the text, bytes from 33 to 126 only, and zero bytes behind it
pub record IsShown (label text : List ℕ) : Type 0 where
  pub seen : (i : ℕ) → i < length text → (33 ≤ get_or text i 0) × (get_or text i 0 ≤ 126)
  pub padded : label ≡ text ++ replicate (length label - length text) 0

-- a label by its rule
abbrev pub LabelShown : Type 0
LabelShown = (label : List ℕ) → label_ok label ≡ true → IsShown label (label_text label)
