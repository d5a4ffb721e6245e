-- A trial in parts, and one more joint that is set aside or not.
use mathlib.Core.Path.{◌≡◌, ◌∙◌, ap}
use mathlib.Core.List.{List}
use Prim.Native.Nat.{ℕ, ◌+◌}
use native.Mathlib.Numerals.{add-one}
use lib.ListN.{set}
use borrow.Author.Tests.{eq-eqb, ne_eqb}
use Rattle.roommates.specs.Lists.{Square, row, list_length, worst_band, strike_band}
use Rattle.roommates.specs.PhaseOne.{fresh, phase_one}
use Rattle.roommates.specs.PhaseTwo.{trial, aside_below}

pub one_trial : (n v : ℕ) (t : Square) {k : ℕ} {u r : Square} → k ≡ worst_band n (row t v) → u ≡ strike_band n t v k
    → r ≡ (phase_one n (fresh u)).lists → r ≡ trial n t v
unfolding trial
one_trial n v t ek eu h = h ∙ ap (λ y. (phase_one n (fresh y)).lists) (eu ∙ ap (λ z. strike_band n t v z) ek)

module _ (i n : ℕ) (t : Square) {a : List ℕ} {m : ℕ} (e : a ≡ aside_below i n t) (long : m ≡ list_length n (row t i)) where
  pub aside_hit : m ≡ 0 → set a i 1 ≡ aside_below (i + 1) n t
  unfolding aside_below
  aside_hit h = rw (add-one i, ← e, ← long, eq-eqb _ _ h)

  pub aside_miss : (m ≡ 0 → ⊥) → a ≡ aside_below (i + 1) n t
  unfolding aside_below
  aside_miss h = rw (add-one i, ← e, ← long, ne_eqb _ _ h)
