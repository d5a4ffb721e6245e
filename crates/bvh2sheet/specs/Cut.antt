-- The text that the program hands on: what it read, and a mark behind it unless the input ended there.
use Rattle.std.specs.Prelude.{Bool, true, false, List, [], ◌∷◌, ◌++◌, ℕ}
use Rattle.hierarchy.specs.Claims.{cut_mark}

unfoldable pub closed : List ℕ → Bool → List ℕ
closed s true = s
closed s false = s ++ (cut_mark ∷ [])
