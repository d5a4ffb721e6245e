-- One turn of phase one's loop: how it goes on, and the two ways in which it stops.
use mathlib.Core.Path.{◌≡◌, ap}
use mathlib.Core.Bool.{cond}
use mathlib.Core.Logic.{◌≢◌}
use mathlib.Core.List.{List}
use Prim.Native.Nat.{ℕ, suc, ◌+◌, ◌*◌, ◌-◌, ◌≤◌, ◌<◌}
use native.Mathlib.Numerals.{add-one}
use native.Mathlib.Nat.{mul-le-mul}
use native.Mathlib.Omega.{arith}
use lib.Dec.{eqb}
use borrow.Author.Tests.{eq-eqb, ne_eqb}
use Rattle.roommates.specs.declared.Stage.{Stage}
use Rattle.roommates.specs.Lists.{Square, row, band_size, best_band}
use Rattle.roommates.specs.PhaseOne.{Work, work, step, lowest_waiting, run_out, phase_one}
use Rattle.base.proofs.CountBelow.{count_most}

pub square_small : (n : ℕ) → n ≤ 128 → n * n ≤ 16384
square_small n h = mul-le-mul h h

-- a step makes at most n proposals
pub step_few : (n : ℕ) (s : Stage) (t : Square) (r g a : List ℕ) (m c p : ℕ) {t' : Square} {r' g' : List ℕ} {m' : ℕ}
    → work s t' r' g' a m' c ≡ step n (work s t r g a m c) p → m' ≤ m + n
unfolding step
step_few n s t r g a m c p {m' = m'} e =
    let made : m' ≡ m + band_size n (best_band n (row t p)) (row t p) = ap (λ w. w.proposals) e in
    let few : band_size n (best_band n (row t p)) (row t p) ≤ n = count_most n _ in
    omega arith

module _ (f n : ℕ) (w : Work) (i : ℕ) (i<f : i < f) where
  one_turn : run_out (f - i) n w ≡ cond (eqb (lowest_waiting n w) n) w (run_out (f - (i + 1)) n (step n w (lowest_waiting n w)))
  unfolding run_out
  one_turn =
      let e : f - i ≡ suc (f - (i + 1)) = omega arith in
      rw e

  pub run_ends : lowest_waiting n w ≡ n → w ≡ run_out (f - i) n w
  run_ends h = rw (one_turn, eq-eqb _ _ h)

  pub run_steps : {low : ℕ} {w' : Work} → (low < n) × (low ≡ lowest_waiting n w) → w' ≡ step n w low
      → run_out (f - (i + 1)) n w' ≡ run_out (f - i) n w
  run_steps found ew =
      let more : lowest_waiting n w ≢ n = λ z. omega (arith, found.0, found.1) in
      rw (one_turn, ne_eqb _ _ more, ew, found.1)

pub turns_over : (f n : ℕ) (w : Work) (i : ℕ) → f ≤ i → w ≡ run_out (f - i) n w
unfolding run_out
turns_over f n w i h =
    let e : f - i ≡ 0 = omega arith in
    rw e

pub all_turns : (n : ℕ) (w : Work) → run_out (n * n + 1) n w ≡ phase_one n w
all_turns n w = rw (add-one (n * n))
