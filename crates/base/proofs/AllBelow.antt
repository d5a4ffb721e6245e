-- Laws of `all_below`.
use mathlib.Core.Path.{◌≡◌, refl, ap, ◌∙◌}
use mathlib.Core.Bool.{Bool, true, false, and-true}
use Prim.Native.Nat.{ℕ, zero, suc, ◌+◌, ◌<◌}
use native.Mathlib.Numerals.{add-one}
use native.Mathlib.Omega.{arith}
use Rattle.base.specs.Below.{all_below}
use Rattle.base.proofs.Cases.{case, below_suc}
use Rattle.base.proofs.Tests as tests

pub all_true : (n : ℕ) (test : ℕ → Bool) → all_below n test ≡ true → (j : ℕ) → j < n → test j ≡ true
unfolding all_below
all_true zero test h j l = absurd (omega arith)
all_true (suc i) test h j l =
    let r : (all_below i test ≡ true) × (test i ≡ true) = tests.and_true _ _ h in
    case (below_suc l) (λ e. ap test e ∙ r.1) (λ m. all_true i test r.0 j m)

pub all_pass : (n : ℕ) (test : ℕ → Bool) → ((j : ℕ) → j < n → test j ≡ true) → all_below n test ≡ true
unfolding all_below
all_pass zero test h = refl
all_pass (suc i) test h = rw (all_pass i test (λ j l. h j (omega arith))) (h i (omega arith))

-- IN A LOOP that leaves at the first miss
pub all_miss : (n : ℕ) (test : ℕ → Bool) (i : ℕ) → i < n → test i ≡ false → all_below n test ≡ false
all_miss n test i l h = tests.not_so (all_below n test) (λ e. tests.never _ (all_true n test e i l) h)

-- IN A LOOP that goes on to the end
module _ (i : ℕ) (test : ℕ → Bool) where
  pub all_same : {s : Bool} → s ≡ all_below i test → test i ≡ true → s ≡ all_below (i + 1) test
  unfolding all_below
  all_same e h = rw (add-one i, h, and-true) e
