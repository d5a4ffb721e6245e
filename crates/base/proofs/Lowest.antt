-- Laws of `lowest`.
use mathlib.Core.Path.{◌≡◌, sym, ap, ◌∙◌}
use mathlib.Core.Bool.{Bool, true, false, cond}
use Prim.Native.Nat.{ℕ, zero, suc, ◌+◌, ◌-◌, ◌≤◌, ◌<◌}
use native.Mathlib.Numerals.{add-one}
use native.Mathlib.Nat.{sub-zero}
use native.Mathlib.Omega.{arith}
use Rattle.base.specs.Below.{lowest, lowest_from}
use Rattle.base.proofs.Cases.{case, both_ways, lt_ge, eq_ne}
use Rattle.base.proofs.Tests.{never}

-- r is the lowest from i on, and e where none below e passes
pub record Lowest (i e : ℕ) (test : ℕ → Bool) (r : ℕ) : Type 0 where
  pub at_most : r ≤ e
  pub passes : r < e → test r ≡ true
  pub fails : (j : ℕ) → i ≤ j → j < r → test j ≡ false

lowest_from_lem : (f i e : ℕ) (test : ℕ → Bool) → i + f ≡ e → Lowest i e test (lowest_from f i test)
unfolding lowest_from
lowest_from_lem zero i e test s = record { at_most = omega arith; passes = λ h. absurd (omega arith); fails = λ j l h. absurd (omega arith) }
lowest_from_lem (suc f) i e test s =
    let m : Lowest (suc i) e test (lowest_from f (suc i) test) = lowest_from_lem f (suc i) e test (omega arith) in
    case (both_ways (test i))
    (λ b. rw b record { at_most = omega arith; passes = λ h. b; fails = λ j l h. absurd (omega arith) })
    (λ b. rw b record {
      at_most = m.at_most;
      passes = m.passes;
      fails = λ j l h. case (eq_ne j i) (λ q. ap test q ∙ b) (λ q. m.fails j (omega arith) h);
    })

module _ (n : ℕ) (test : ℕ → Bool) where
  pub lowest_law : Lowest 0 n test (lowest n test)
  lowest_law = lowest_from_lem n 0 n test (omega arith)

  pub lowest_at_most : lowest n test ≤ n
  lowest_at_most = lowest_law.at_most

  pub lowest_passes : lowest n test < n → test (lowest n test) ≡ true
  lowest_passes = lowest_law.passes

  pub lower_fails : (j : ℕ) → j < lowest n test → test j ≡ false
  lower_fails j h = lowest_law.fails j (omega arith) h

  pub none_passes : lowest n test ≡ n → (j : ℕ) → j < n → test j ≡ false
  none_passes e j h = lower_fails j (omega arith)

  -- where one passes, the lowest is no higher
  pub lowest_below : (j : ℕ) → test j ≡ true → lowest n test ≤ j
  lowest_below j p =
      case (lt_ge j (lowest n test))
      (λ m. absurd (never _ p (lower_fails j m)))
      (λ m. m)

  pub some_passes : (j : ℕ) → j < n → test j ≡ true → lowest n test < n
  some_passes j h p = let m = lowest_below j p in omega arith

-- IN A LOOP from below: the numbers below i failed
pub lowest_starts : (n : ℕ) (test : ℕ → Bool) → lowest_from (n - 0) 0 test ≡ lowest n test
lowest_starts n test = rw sub-zero

module _ (n i : ℕ) (test : ℕ → Bool) where
  one_turn : i < n → lowest_from (n - i) i test ≡ cond (test i) i (lowest_from (n - (i + 1)) (i + 1) test)
  unfolding lowest_from
  one_turn h =
      let e : n - i ≡ suc (n - (i + 1)) = omega arith in
      rw (e, add-one i)

  pub lowest_hit : i < n → lowest_from (n - i) i test ≡ lowest n test → test i ≡ true → i ≡ lowest n test
  lowest_hit h e t = sym (rw t at (one_turn h)) ∙ e

  pub lowest_miss : i < n → lowest_from (n - i) i test ≡ lowest n test → test i ≡ false → lowest_from (n - (i + 1)) (i + 1) test ≡ lowest n test
  lowest_miss h e t = sym (rw t at (one_turn h)) ∙ e

  pub lowest_none : n ≤ i → i ≤ n → lowest_from (n - i) i test ≡ lowest n test → n ≡ lowest n test
  unfolding lowest_from
  lowest_none h g e =
      let z : n - i ≡ 0 = omega arith in
      let s : n ≡ i = omega arith in
      s ∙ (rw z at e)
