-- Laws of decimals: how long they are, and what they mean.
use mathlib.Core.Path.{◌≡◌, refl, ◌∙◌}
use mathlib.Core.Bool.{Bool, true, false, cond}
use mathlib.Core.List.{List, [], ◌∷◌}
use Prim.Native.Nat.{ℕ, zero, suc, ◌+◌, ◌/◌, ◌%◌, ◌≤◌, ◌<◌}
use native.Mathlib.Omega.{arith}
use lib.Dec.{leb}
use lib.ListN.{length, get_or, length-append}
use borrow.Author.Tests.{le-leb, lt-leb}
use Rattle.std.specs.Fmt as printed
use Rattle.std.proofs.lemmas.Fmt as printed_laws
use Rattle.base.proofs.Cases.{case, lt_ge}
use Rattle.writing.specs.Decimal.{digit, decimal, number_line}
use Rattle.writing.specs.Claims.{value_after, IsDecimal, DecimalMeans}

pub one_at_most : (b : Bool) (x : ℕ) → length (cond b (x ∷ []) []) ≤ 1
one_at_most true x = omega arith
one_at_most false x = omega arith

pub decimal_short : (k : ℕ) → length (decimal k) ≤ 3
unfolding decimal
decimal_short k =
    let a = one_at_most (leb 100 k) (digit (k / 100)) in
    let b = one_at_most (leb 10 k) (digit (k / 10 % 10)) in
    simp length-append (omega arith)

pub number_line_short : (word : List ℕ) (k : ℕ) → length (number_line word k) ≤ length word + 4
unfolding number_line
number_line_short word k = let h = decimal_short k in simp length-append (omega arith)

-- a number of one, two or three digits
one_digit : (k : ℕ) → k < 10 → decimal k ≡ digit (k % 10) ∷ []
unfolding decimal
one_digit k h = rw (lt-leb 100 k (omega arith), lt-leb 10 k h)

two_digits : (k : ℕ) → 10 ≤ k → k < 100 → decimal k ≡ digit (k / 10 % 10) ∷ digit (k % 10) ∷ []
unfolding decimal
two_digits k h l = rw (lt-leb 100 k l, le-leb 10 k h)

three_digits : (k : ℕ) → 100 ≤ k → decimal k ≡ digit (k / 100) ∷ digit (k / 10 % 10) ∷ digit (k % 10) ∷ []
unfolding decimal
three_digits k h = rw (le-leb 100 k h, le-leb 10 k (omega arith))

-- as the library prints it
pub decimal_printed : (k : ℕ) → k < 1000 → printed.decimal k ≡ decimal k
decimal_printed k h =
    case (lt_ge k 10)
    (λ l. let e : k % 10 ≡ k = omega arith in printed_laws.decimal_digit k l ∙ rw (one_digit k l, e) refl)
    (λ g. printed_laws.decimal_step k g (omega arith) ∙ case (lt_ge k 100)
    (λ l.
    let tens : k / 10 % 10 ≡ k / 10 = omega arith in
    rw (printed_laws.decimal_digit (k / 10) (omega arith), two_digits k g l, tens) refl)
    (λ g₁.
    let hundreds : k / 10 / 10 ≡ k / 100 = omega arith in
    rw (printed_laws.decimal_step (k / 10) (omega arith) (omega arith), printed_laws.decimal_digit (k / 10 / 10) (omega arith), three_digits k g₁, hundreds) refl))

abbrev IsDigit : ℕ → Type 0
IsDigit b = (48 ≤ b) × (b ≤ 57)

small : (k : ℕ) → k < 10 → IsDecimal k (digit (k % 10) ∷ [])
unfolding value_after
small k l = record { value = omega arith; digits = digits; no_nought = λ e. (omega arith, refl) }
  where
    digits : (i : ℕ) → i < 1 → IsDigit (get_or (digit (k % 10) ∷ []) i 0)
    digits zero h = (omega arith, omega arith)
    digits (suc i) h = absurd (omega arith)

middle : (k : ℕ) → 10 ≤ k → k < 100 → IsDecimal k (digit (k / 10 % 10) ∷ digit (k % 10) ∷ [])
unfolding value_after
middle k g l = record { value = omega arith; digits = digits; no_nought = λ e. absurd (omega arith) }
  where
    digits : (i : ℕ) → i < 2 → IsDigit (get_or (digit (k / 10 % 10) ∷ digit (k % 10) ∷ []) i 0)
    digits zero h = (omega arith, omega arith)
    digits (suc zero) h = (omega arith, omega arith)
    digits (suc (suc i)) h = absurd (omega arith)

large : (k : ℕ) → 100 ≤ k → k < 1000 → IsDecimal k (digit (k / 100) ∷ digit (k / 10 % 10) ∷ digit (k % 10) ∷ [])
unfolding value_after
large k g l = record { value = omega arith; digits = digits; no_nought = λ e. absurd (omega arith) }
  where
    digits : (i : ℕ) → i < 3 → IsDigit (get_or (digit (k / 100) ∷ digit (k / 10 % 10) ∷ digit (k % 10) ∷ []) i 0)
    digits zero h = (omega arith, omega arith)
    digits (suc zero) h = (omega arith, omega arith)
    digits (suc (suc zero)) h = (omega arith, omega arith)
    digits (suc (suc (suc i))) h = absurd (omega arith)

pub decimal_means : DecimalMeans
decimal_means k h =
    case (lt_ge k 10) (λ l. rw (one_digit k l) (small k l)) (λ g.
    case (lt_ge k 100) (λ l. rw (two_digits k g l) (middle k g l)) (λ g₁. rw (three_digits k g₁) (large k g₁ h)))
