-- One proposal, and one more joint of a step.
use mathlib.Core.Path.{◌≡◌}
use mathlib.Core.List.{List}
use Prim.Native.Nat.{ℕ, ◌+◌, ◌≤◌, ◌<◌}
use native.Mathlib.Numerals.{add-one}
use lib.ListN.{get_or, set}
use borrow.Author.Tests.{le-leb, lt-leb, eq-eqb, ne_eqb}
use Rattle.sheet.specs.Square.{at}
use Rattle.roommates.specs.declared.Stage.{Stage}
use Rattle.roommates.specs.Lists.{Square, row, best_band, band_size, strike_worse, strike_band}
use Rattle.roommates.specs.PhaseOne.{standing_at, proposed, propose_all, receive_all, work, step}

module _ (n : ℕ) (reach : List ℕ) (t : Square) (p q : ℕ) {u : Square} where
  pub proposed_alone : u ≡ strike_worse n t q (at t q p) → standing_at n u reach q < 2 → u ≡ proposed n reach t p q
  unfolding proposed
  proposed_alone e h = rw (← e, lt-leb 2 _ h)

  pub proposed_tied : {v : Square} → u ≡ strike_worse n t q (at t q p) → 2 ≤ standing_at n u reach q → v ≡ strike_band n u q (at t q p)
      → v ≡ proposed n reach t p q
  unfolding proposed
  proposed_tied e h f = rw (← e, le-leb 2 _ h) f

module _ (i n : ℕ) (l : List ℕ) (k : ℕ) (reach : List ℕ) (t : Square) (p : ℕ) {u : Square} where
  pub propose_hit : u ≡ propose_all i n l k reach t p → get_or l i 0 ≡ k → proposed n reach u p i ≡ propose_all (i + 1) n l k reach t p
  unfolding propose_all
  propose_hit e h = rw (add-one i, ← e, eq-eqb _ _ h)

  pub propose_miss : u ≡ propose_all i n l k reach t p → (get_or l i 0 ≡ k → ⊥) → u ≡ propose_all (i + 1) n l k reach t p
  unfolding propose_all
  propose_miss e h = rw (add-one i, ← e, ne_eqb _ _ h)

module _ (i : ℕ) (l : List ℕ) (k : ℕ) (g : List ℕ) {r : List ℕ} where
  pub receive_hit : r ≡ receive_all i l k g → get_or l i 0 ≡ k → set r i 1 ≡ receive_all (i + 1) l k g
  unfolding receive_all
  receive_hit e h = rw (add-one i, ← e, eq-eqb _ _ h)

  pub receive_miss : r ≡ receive_all i l k g → (get_or l i 0 ≡ k → ⊥) → r ≡ receive_all (i + 1) l k g
  unfolding receive_all
  receive_miss e h = rw (add-one i, ← e, ne_eqb _ _ h)

-- what a step changes, each by itself
pub one_step : (n : ℕ) (s : Stage) (t : Square) (r g a : List ℕ) (m c p : ℕ) {k : ℕ} {t' : Square} {g' : List ℕ} {m' : ℕ} → k ≡ best_band n (row t p)
    → t' ≡ propose_all n n (row t p) k (set r p k) t p → g' ≡ receive_all n (row t p) k g → m' ≡ m + band_size n k (row t p)
    → work s t' (set r p k) g' a m' c ≡ step n (work s t r g a m c) p
unfolding step
one_step n s t r g a m c p ek et eg em = rw (et, eg, em, ek)
