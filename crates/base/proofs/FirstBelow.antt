-- The lowest of the numbers below n that pass a test, if there is one.
use Rattle.std.proofs.Common.{◌≡◌, refl, ℕ, ◌<◌, Bool, Option, MatchOption, arith}
use borrow.Author.Tests.{lt-ltb, le-ltb}
use Rattle.base.specs.Below.{lowest, first_below}
use Rattle.base.proofs.Cases.{case, lt_ge}
use Rattle.base.proofs.Lowest.{lowest_at_most}

pub first_found : (n : ℕ) (test : ℕ → Bool) {r : Option ℕ} → r ≡ first_below n test
    → MatchOption r (lowest n test ≡ n) (λ i. (i < n) × (i ≡ lowest n test))
first_found n test e =
    case (lt_ge (lowest n test) n)
    (λ l. rw (e, lt-ltb (lowest n test) n l) (l, refl))
    (λ g. rw (e, le-ltb (lowest n test) n g) (omega (arith, lowest_at_most n test)))
