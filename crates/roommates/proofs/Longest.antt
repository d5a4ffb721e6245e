-- The joint with the longest list: it has a list longer than one, where anybody has.
use mathlib.Core.Path.{◌≡◌, ◌∙◌, ap}
use mathlib.Core.Bool.{true, false}
use Prim.Native.Nat.{ℕ, ◌≤◌, ◌<◌}
use native.Mathlib.Omega.{arith}
use borrow.Author.Tests.{le-leb, lt-leb, leb-true}
use Rattle.base.specs.Below.{any_below}
use Rattle.base.proofs.AnyBelow.{any_hit, none_any}
use Rattle.base.proofs.Argmax.{Greatest, argmax_greatest, argmax_inside}
use Rattle.base.proofs.CountBelow.{count_most}
use Rattle.roommates.specs.Lists.{Square, row, list_length}
use Rattle.roommates.specs.PhaseTwo.{longer, longest_list}

module _ (n : ℕ) (t : Square) where
  abbrev lengths : ℕ → ℕ
  lengths x = list_length n (row t x)

  pub longest_greatest : Greatest n lengths (longest_list n t)
  unfolding longest_list
  longest_greatest = argmax_greatest n lengths

  pub longest_longer : (x : ℕ) → x < n → longer n t x ≡ true → longer n t (longest_list n t) ≡ true
  longest_longer x l h =
      let two : 2 ≤ lengths x = leb-true 2 (lengths x) h in
      le-leb 2 (lengths (longest_list n t)) (omega (arith, longest_greatest.at_most x l))

  module _ {x : ℕ} (longest : x ≡ longest_list n t) where
    -- it is below any room for n joints
    pub longest_inside : (m : ℕ) → n ≤ m → 0 < m → x < m
    unfolding longest_list
    longest_inside m l h = rw longest (argmax_inside n m lengths l h)

    -- its length k says whether any list is longer than one
    module _ {k : ℕ} (long : k ≡ lengths x) where
      length_is : k ≡ lengths (longest_list n t)
      length_is = long ∙ ap lengths longest

      pub some_longer : 2 ≤ k → any_below n (λ x. longer n t x) ≡ true
      some_longer h =
          let most : lengths x ≤ n = count_most n _ in
          any_hit n (λ x. longer n t x) x (longest_inside n (omega arith) (omega arith)) (le-leb 2 (lengths x) (omega arith))

      pub none_longer : k < 2 → any_below n (λ x. longer n t x) ≡ false
      none_longer h = none_any n (λ x. longer n t x) (λ y l. lt-leb 2 (lengths y) (omega (arith, length_is, longest_greatest.at_most y l)))
