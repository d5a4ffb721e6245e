-- A joint strikes every pair whose band on its list is hit.
use Rattle.std.proofs.Common.{◌≡◌, ℕ, Bool}
use Rattle.roommates.specs.Lists.{strike_if}
use Rattle.lists.proofs.strikes.strike.Given as goal

abbrev pub invariant-loop-i : goal.invariant-loop-i
invariant-loop-i g l =
    (test : ℕ → Bool) → ((b : ℕ) (r : Bool) → goal.F-post g l.hit b r → r ≡ test b) → l.bands ≡ strike_if test l.i l.initial.bands l.q
