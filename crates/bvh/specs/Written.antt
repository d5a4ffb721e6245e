-- The sheet that a hierarchy becomes: its joints with labels in order of appearance, no rankings, and parents.
use Rattle.std.specs.Prelude.{List, ◌∷◌, ◌++◌, ℕ, ◌-◌, length, replicate}
use Rattle.base.specs.Below.{joined}
use Rattle.sections.specs.Labels.{label_width}
use Rattle.words.specs.Words.{Words}
use Rattle.names.specs.Names.{name_of}
use Rattle.hierarchy.specs.Hierarchy.{Joints}

-- a name's label: the name, and zero bytes up to 16
abbrev pub label_for : List ℕ → List ℕ
label_for name = name ++ replicate (label_width - length name) 0

abbrev pub labels_for : Words → List ℕ
labels_for names = joined (length names) (λ i. label_for (name_of names i))

-- the count of joints and their labels; no entries; the count of parents and these
unfoldable pub sheet_for : Joints → List ℕ
sheet_for js = length js.names ∷ (labels_for js.names ++ (0 ∷ 0 ∷ length js.names ∷ js.parents))
