-- Labels as text: the part shown, and how long it and its lines are.
use mathlib.Core.Path.{◌≡◌, ap}
use mathlib.Core.List.{List, [], ◌∷◌}
use Prim.Native.Nat.{ℕ, ◌+◌, ◌≤◌}
use native.Mathlib.Omega.{arith}
use lib.ListN.{length, take, length-append, length-take}
use Rattle.sections.specs.Labels.{visible_run}
use Rattle.labels.specs.Lines.{label_text, label_line, pair_line}

pub shown_text : (label : List ℕ) (r : ℕ) → r ≡ visible_run label → take r label ≡ label_text label
unfolding label_text
shown_text label r e = ap (λ (k : ℕ). take k label) e

pub label_line_length : (label : List ℕ) → length (label_line label) ≡ length (label_text label) + 1
unfolding label_line
label_line_length label = length-append (label_text label) (10 ∷ [])

pub pair_line_length : (a b : List ℕ) → length (pair_line a b) ≡ length (label_text a) + (1 + length (label_line b))
unfolding pair_line
pair_line_length a b = let h = length-append (label_text a) (32 ∷ label_line b) in omega arith

-- at most the label's own bytes
pub label_short : (label : List ℕ) → length (label_text label) ≤ length label
unfolding label_text
label_short label = let h = length-take (visible_run label) label in omega arith
