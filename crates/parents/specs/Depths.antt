-- The depth of a joint: one more than its parent's, and nought at a root.
use Rattle.std.specs.Prelude.{cond, List, ℕ, zero, suc}
use Rattle.parents.specs.Parents.{parent_of, is_root}

-- in so many steps up: parents are lower, so a joint is at its root before it has made more steps than its number
unfoldable pub depth_in : ℕ → List ℕ → ℕ → ℕ
depth_in zero ps i = 0
depth_in (suc f) ps i = cond (is_root ps i) 0 (suc (depth_in f ps (parent_of ps i)))

abbrev pub depth_of : List ℕ → ℕ → ℕ
depth_of ps i = depth_in (suc i) ps i
