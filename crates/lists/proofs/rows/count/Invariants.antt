-- How many bands pass, counted.
use Rattle.std.proofs.Common.{◌≡◌, ℕ, Bool, ◌≤◌, get_or}
use Rattle.base.specs.Below.{count_below}
use Rattle.lists.proofs.rows.count.Given as goal

abbrev pub invariant-loop-b : goal.invariant-loop-b
invariant-loop-b g l = record {
  few : l.passed ≤ l.b-index;
  counted : (p : ℕ → Bool) → ((b : ℕ) (r : Bool) → goal.F-post g l.test b r → r ≡ p b) → l.passed ≡ count_below l.b-index (λ b. p (get_or l.row b 0));
}
