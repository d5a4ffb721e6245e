-- At most n × n proposals: a step goes to a band beyond all that its joint proposed to before, so nobody proposes to anybody twice.
use mathlib.Core.Path.{◌≡◌, refl, ap, sym, ◌∙◌}
use mathlib.Core.Bool.{Bool, true, false, ◌&&◌, cond}
use mathlib.Core.List.{List}
use Prim.Native.Nat.{ℕ, ◌+◌, ◌*◌, ◌≤◌, ◌<◌}
use native.Mathlib.Omega.{arith}
use lib.Dec.{eqb, ltb, leb}
use lib.ListN.{get_or, set}
use lib.Seq.{get_or-set_same, get_or-set_other}
use borrow.Author.Tests.{le-leb, lt-leb, eq-eqb, ne_eqb}
use Rattle.base.proofs.Cases.{case, lt_ge, eq_ne}
use Rattle.roommates.specs.Lists.{Square, row, best_band, band_size}
use Rattle.roommates.specs.PhaseOne.{Work, fresh, waits, step}
use Rattle.roommates.specs.Runs.{Run, stop, then}
use Rattle.base.specs.Below.{sum_below}
use Rattle.base.proofs.CountBelow.{count_sum}
use Rattle.base.proofs.SumBelow.{sum_le, sum_bound, sum_add, sum_raise}
use Rattle.roommates.proofs.Rows.{best_least, best_attained}
use Rattle.roommates.proofs.Waiting.{waits_listed, waits_standing}
use Rattle.roommates.proofs.Sound.{Sound, Shrunk, shrunk_refl, shrunk_trans}
use Rattle.roommates.proofs.States.{Steady, fresh_steady}
use Rattle.roommates.proofs.Steps.{step_steady, step_shrunk}

-- 1 for a place in a band up to k
pub within : ℕ → ℕ → ℕ
within k b = cond (ltb 0 b && leb b k) 1 0

within_le : (k b : ℕ) → within k b ≤ 1
unfolding within
within_le k b = by_bool (ltb 0 b && leb b k)
  where
    by_bool : (c : Bool) → cond c 1 0 ≤ 1
    by_bool true = omega arith
    by_bool false = omega arith

within_zero : (k : ℕ) → within k 0 ≡ 0
unfolding within
within_zero k = refl

within_to : (k b : ℕ) → 0 < b → b ≤ k → within k b ≡ 1
unfolding within
within_to k b pos le = rw (le-leb 1 b pos, le-leb b k le)

within_past : (k b : ℕ) → k < b → within k b ≡ 0
unfolding within
within_past k b lt = rw (le-leb 1 b (omega arith), lt-leb b k lt)

-- 1 for a place in band k
abbrev hit : ℕ → ℕ → ℕ
hit k b = cond (eqb b k) 1 0

-- going on from band r to band k takes in the joints of band k, and takes in none twice
within_more : (r k b c : ℕ) → r < k → (c ≡ k → b ≡ k) → within r b + hit k c ≤ within k b
within_more r k b c lt h =
    case (eq_ne c k)
    (λ e.
    let be : b ≡ k = h e in
    let one : hit k c ≡ 1 = rw (eq-eqb c k e) in
    let old : within r b ≡ 0 = within_past r b (omega arith) in
    let new : within k b ≡ 1 = within_to k b (omega arith) (omega arith) in
    omega arith)
    (λ ne.
    let none : hit k c ≡ 0 = rw (ne_eqb c k ne) in
    case (lt_ge 0 b)
    (λ pos.
    case (lt_ge r b)
    (λ past. let old : within r b ≡ 0 = within_past r b past in omega arith)
    (λ to.
    let old : within r b ≡ 1 = within_to r b pos to in
    let new : within k b ≡ 1 = within_to k b pos (omega arith) in
    omega arith))
    (λ z.
    let be : b ≡ 0 = omega arith in
    let old : within r b ≡ 0 = ap (within r) be ∙ within_zero r in
    omega arith))

-- the joints on a list in bands up to k
pub asked : ℕ → ℕ → List ℕ → ℕ
asked n k l = sum_below n (λ b. within k (get_or l b 0))

asked_le : (n k : ℕ) (l : List ℕ) → asked n k l ≤ n
unfolding asked
asked_le n k l =
    let few : sum_below n (λ b. within k (get_or l b 0)) ≤ n * 1 = sum_bound n 1 _ (λ b lt. within_le k (get_or l b 0)) in
    omega arith

asked_more : (n r k : ℕ) (l m : List ℕ) → r < k → ((b : ℕ) → b < n → get_or m b 0 ≡ k → get_or l b 0 ≡ k) → asked n r l + band_size n k m ≤ asked n k l
unfolding asked
asked_more n r k l m lt h =
    rw (count_sum n (λ b. eqb (get_or m b 0) k), ← sum_add n (λ b. within r (get_or l b 0)) (λ b. hit k (get_or m b 0)))
    (sum_le n _ _ (λ b lb. within_more r k (get_or l b 0) (get_or m b 0) lt (h b lb)))

-- Holds along a run from fresh t: the proposals made are to joints in bands of t up to each joint's reach.
pub record Counted (n : ℕ) (t : Square) (w : Work) : Type 0 where
  pub steady : Steady n w
  pub shrunk : Shrunk t w.lists
  pub few : w.proposals ≤ sum_below n (λ p. asked n (get_or w.reach p 0) (row t p))

pub counted_fresh : {n : ℕ} {t : Square} → Sound n t → Counted n t (fresh t)
counted_fresh s = record { steady = fresh_steady s; shrunk = shrunk_refl s; few = omega arith }

module _ (n : ℕ) (t : Square) (w : Work) (p : ℕ) (lt : p < n) (wt : waits n w p ≡ true) (c : Counted n t w) where
  -- the best band of a list is beyond the band that its joint, which waits, last proposed to
  beyond : get_or w.reach p 0 < best_band n (row w.lists p)
  beyond =
      let l : List ℕ = row w.lists p in
      let r : ℕ = get_or w.reach p 0 in
      let k : ℕ = best_band n l in
      let j : (j : ℕ) × (j < n) × (0 < get_or l j 0) = waits_listed n r l wt in
      let pos : 0 < k = (best_least n l j.0 j.1 j.2).0 in
      let i : (i : ℕ) × (i < n) × (get_or l i 0 ≡ k) = best_attained n l pos in
      let head : r ≤ k = rw i.2 at (c.steady.heads p i.0 (rw i.2 pos)) in
      case (eq_ne k r)
      (λ e. absurd (waits_standing n r l wt i.0 i.1 (rw e at pos) (i.2 ∙ e)))
      (λ ne. omega arith)

  -- nobody's count falls, and p's grows by the band that it goes to
  asked_here : asked n (get_or w.reach p 0) (row t p) + band_size n (best_band n (row w.lists p)) (row w.lists p) ≤ asked n (best_band n (row w.lists p)) (row t p)
  asked_here = asked_more n _ _ (row t p) (row w.lists p) beyond (λ b lb e. sym (c.shrunk.below.kept p b (omega (arith, beyond))) ∙ e)

  few_step : (step n w p).proposals ≤ sum_below n (λ q. asked n (get_or (step n w p).reach q 0) (row t q))
  unfolding step
  few_step =
      let k : ℕ = best_band n (row w.lists p) in
      let d : ℕ = band_size n k (row w.lists p) in
      let moved : List ℕ = set w.reach p k in
      let old : ℕ → ℕ = λ q. asked n (get_or w.reach q 0) (row t q) in
      let new : ℕ → ℕ = λ q. asked n (get_or moved q 0) (row t q) in
      let there : get_or moved p 0 ≡ k = get_or-set_same w.reach p k 0 (omega (arith, c.steady.reach_length, c.steady.sound.few_joints)) in
      let up : old p + d ≤ new p = rw there asked_here in
      let under : (q : ℕ) → q < n → old q ≤ new q =
      λ q lq.
      case (eq_ne q p)
      (λ e. rw e (let o : old p + d ≤ new p = up in omega arith))
      (λ ne. rw (get_or-set_other w.reach p q k 0 ne) (omega arith)) in
      let raised : sum_below n old + d ≤ sum_below n new = sum_raise n old new p d lt under up in
      let before : w.proposals ≤ sum_below n old = c.few in
      omega arith

  pub counted_step : Counted n t (step n w p)
  counted_step =
      record {
        steady = step_steady c.steady p lt wt;
        shrunk = shrunk_trans c.shrunk (step_shrunk c.steady p lt wt);
        few = few_step;
      }

pub counted_run : {n : ℕ} {t : Square} {w w' : Work} → Run n w w' → Counted n t w → Counted n t w'
counted_run stop c = c
counted_run {n} {t} {w} (then p lt wt r) c = counted_run r (counted_step n t w p lt wt c)

pub counted_few : {n : ℕ} {t : Square} {w : Work} → Counted n t w → w.proposals ≤ n * n
counted_few {n} {t} {w} c =
    let few : w.proposals ≤ sum_below n (λ p. asked n (get_or w.reach p 0) (row t p)) = c.few in
    let all : sum_below n (λ p. asked n (get_or w.reach p 0) (row t p)) ≤ n * n = sum_bound n n _ (λ p lt. asked_le n _ (row t p)) in
    omega arith

pub few_proposals : {n : ℕ} {t : Square} {w : Work} → Sound n t → Run n (fresh t) w → w.proposals ≤ n * n
few_proposals s r = counted_few (counted_run r (counted_fresh s))
