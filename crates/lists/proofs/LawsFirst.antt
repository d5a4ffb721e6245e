-- First on a list is one of the joints below n, if there are any.
use mathlib.Core.Path.{◌≡◌}
use mathlib.Core.Bool.{Bool}
use mathlib.Core.List.{List}
use Prim.Native.Nat.{ℕ, ◌<◌}
use native.Mathlib.Omega.{arith}
use lib.Dec.{eqb}
use lib.ListN.{get_or}
use borrow.Author.Tests.{eq-eqb, lt-ltb, le-ltb}
use Rattle.std.specs.Option.{unwrap_or}
use Rattle.base.specs.Below.{lowest, first_below}
use Rattle.base.proofs.Cases.{case, lt_ge}
use Rattle.base.proofs.Lowest.{some_passes, lowest_at_most}
use Rattle.roommates.specs.Lists.{best_band, first_on}
use Rattle.roommates.proofs.Rows.{best_least, best_attained}

-- the lowest, or n where none passes
pub first_or_all : (n : ℕ) (test : ℕ → Bool) → unwrap_or (first_below n test) n ≡ lowest n test
first_or_all n test =
    case (lt_ge (lowest n test) n)
    (λ l. rw (lt-ltb _ _ l))
    (λ g. rw (le-ltb _ _ g) (omega (arith, lowest_at_most n test)))

pub first_inside : (n : ℕ) (l : List ℕ) → 0 < n → first_on n l < n
unfolding first_on
first_inside n l h =
    let test : ℕ → Bool = λ b. eqb (get_or l b 0) (best_band n l) in
    case (lt_ge 0 (best_band n l))
    (λ some. let j : (j : ℕ) × (j < n) × (get_or l j 0 ≡ best_band n l) = best_attained n l some in some_passes n test j.0 j.1 (eq-eqb _ _ j.2))
    (λ none. case (lt_ge 0 (get_or l 0 0))
    (λ listed. let best = best_least n l 0 h listed in omega arith)
    (λ empty. some_passes n test 0 h (eq-eqb (get_or l 0 0) (best_band n l) (omega arith))))
