-- The first on a list.
use mathlib.Core.Path.{◌≡◌}
use mathlib.Core.List.{List}
use Prim.Native.Nat.{ℕ, ◌≤◌, ◌<◌}
use native.Mathlib.Omega.{arith}
use lib.ListN.{get_or}
use borrow.Author.Tests.{eqb-true, eq-eqb}
use Rattle.base.proofs.Lowest.{lowest_passes, some_passes}
use Rattle.roommates.specs.Lists.{best_band, first_on}
use Rattle.roommates.proofs.Rows.{best_least, best_attained}

-- the first on a list that is not empty is on it, and nobody there is better
pub first_best : (n : ℕ) (l : List ℕ) (j : ℕ) → j < n → 0 < get_or l j 0
    → (first_on n l < n) × (0 < get_or l (first_on n l) 0) × (get_or l (first_on n l) 0 ≤ get_or l j 0)
unfolding first_on
first_best n l j h listed =
    let b : (0 < best_band n l) × (best_band n l ≤ get_or l j 0) = best_least n l j h listed in
    let k : (i : ℕ) × (i < n) × (get_or l i 0 ≡ best_band n l) = best_attained n l b.0 in
    let m : first_on n l < n = some_passes n _ k.0 k.1 (eq-eqb (get_or l k.0 0) (best_band n l) k.2) in
    let e : get_or l (first_on n l) 0 ≡ best_band n l = eqb-true (get_or l (first_on n l) 0) (best_band n l) (lowest_passes n _ m) in
    (m, omega arith, omega arith)
