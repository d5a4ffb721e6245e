-- A table of worked examples.
use Rattle.std.specs.Prelude.{List, [], ◌∷◌}

-- every row holds
abbrev pub AllHold : {A : Type 0} → (A → Type 0) → List A → Type 0
AllHold Holds [] = record {}
AllHold Holds (r ∷ rs) = Holds r × AllHold Holds rs
