-- Laws of `argmax`.
use mathlib.Core.Path.{◌≡◌, refl, sym, ap, ◌∙◌}
use Prim.Native.Nat.{ℕ, zero, suc, ◌+◌, ◌≤◌, ◌<◌}
use native.Mathlib.Numerals.{add-one}
use native.Mathlib.Omega.{arith}
use borrow.Author.Tests.{le-leb, lt-leb}
use Rattle.base.specs.Below.{argmax}
use Rattle.base.proofs.Cases.{case, lt_ge, below_suc}

-- no number below n has more than x, and none that is higher has as much
pub record Greatest (n : ℕ) (f : ℕ → ℕ) (x : ℕ) : Type 0 where
  pub at_most : (j : ℕ) → j < n → f j ≤ f x
  pub higher_less : (j : ℕ) → x < j → j < n → f j < f x

pub argmax_greatest : (n : ℕ) (f : ℕ → ℕ) → Greatest n f (argmax n f)
unfolding argmax
argmax_greatest zero f = record { at_most = λ j l. absurd (omega arith); higher_less = λ j h l. absurd (omega arith) }
argmax_greatest (suc i) f =
    let m : Greatest i f (argmax i f) = argmax_greatest i f in
    case (lt_ge (f i) (f (argmax i f)))
    (λ d. rw (lt-leb _ _ d) record {
      at_most = λ j l. case (below_suc l) (λ e. rw e (omega arith)) (λ l. m.at_most j l);
      higher_less = λ j h l. case (below_suc l) (λ e. rw e d) (λ l. m.higher_less j h l);
    })
    (λ d. rw (le-leb _ _ d) record {
      at_most = λ j l. case (below_suc l) (λ e. rw e (omega arith)) (λ l. omega (arith, m.at_most j l));
      higher_less = λ j h l. absurd (omega arith);
    })

-- it is below n, where anything is; and below any room for n numbers
pub argmax_inside : (n m : ℕ) (f : ℕ → ℕ) → n ≤ m → 0 < m → argmax n f < m
unfolding argmax
argmax_inside zero m f l h = h
argmax_inside (suc i) m f l h =
    case (lt_ge (f i) (f (argmax i f)))
    (λ d. rw (lt-leb _ _ d) (argmax_inside i m f (omega arith) h))
    (λ d. rw (le-leb _ _ d) (omega arith))

-- IN A LOOP: x, with the value m, is the best so far, and i, with the value k, comes next
pub argmax_starts : (f : ℕ → ℕ) → 0 ≡ argmax 0 f
unfolding argmax
argmax_starts f = refl

module _ (i : ℕ) (f : ℕ → ℕ) {x m k : ℕ} (is : x ≡ argmax i f) (has : m ≡ f x) (next : k ≡ f i) {y l : ℕ} where
  pub argmax_next : y ≡ i → l ≡ k → m ≤ k → (y ≡ argmax (i + 1) f) × (l ≡ f y)
  unfolding argmax
  argmax_next e v h = (e ∙ rw (add-one i, ← is, ← has, ← next, le-leb m k h) refl, v ∙ next ∙ ap f (sym e))

  pub argmax_same : y ≡ x → l ≡ m → k < m → (y ≡ argmax (i + 1) f) × (l ≡ f y)
  unfolding argmax
  argmax_same e v h = (e ∙ rw (add-one i, ← is, ← has, ← next, lt-leb m k h) refl, v ∙ has ∙ ap f (sym e))
