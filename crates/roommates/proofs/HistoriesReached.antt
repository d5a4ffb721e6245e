-- The joints that a step reaches are those of the band that `best_band` finds; so a run counts its proposals as said.
use mathlib.Core.Path.{◌≡◌, sym, ap}
use mathlib.Core.Bool.{true, ◌||◌}
use mathlib.Core.List.{List}
use Prim.Native.Nat.{ℕ, ◌+◌, ◌≤◌, ◌<◌}
use native.Mathlib.Omega.{arith}
use lib.Dec.{eqb, leb}
use lib.ListN.{get_or}
use borrow.Author.Tests.{ltb-true, lt-ltb, leb-true, le-leb, eqb-true, eq-eqb, ne_eqb}
use Rattle.base.specs.Below.{all_below, count_below, sum_below}
use Rattle.base.proofs.SumBelow.{sum_first}
use Rattle.base.proofs.Cases.{case, eq_ne}
use Rattle.base.proofs.Tests.{and_true, or_true, not_so}
use Rattle.base.proofs.AllBelow.{all_true, all_pass}
use Rattle.base.proofs.CountBelow.{count_same}
use Rattle.roommates.specs.Lists.{row, is_listed, best_band}
use Rattle.roommates.specs.PhaseOne.{Work, fresh, waits, step}
use Rattle.roommates.specs.Runs.{stop, then}
use Rattle.roommates.specs.Histories.{steps, proposer, lists_after, in_best_band, reached, ProposalsAdded, ProposalsAsSaid}
use Rattle.roommates.proofs.Rows.{best_least, best_attained}
use Rattle.roommates.proofs.Waiting.{waits_listed}

-- THE BEST BAND of a list that is not empty is the one that `best_band` finds
module _ (n : ℕ) (l : List ℕ) (some : 0 < best_band n l) (q : ℕ) (inside : q < n) where
  least : (r : ℕ) → r < n → get_or l q 0 ≡ best_band n l → (eqb (get_or l r 0) 0 || leb (get_or l q 0) (get_or l r 0)) ≡ true
  least r below e =
      case (eq_ne (get_or l r 0) 0)
      (λ z. rw (eq-eqb (get_or l r 0) 0 z))
      (λ z. rw (ne_eqb (get_or l r 0) 0 z) (le-leb (get_or l q 0) (get_or l r 0) (omega (arith, (best_least n l r below (omega arith)).1))))

  pub best_found : in_best_band n l q ≡ true → get_or l q 0 ≡ best_band n l
  best_found h =
      let f : (is_listed l q ≡ true) × (all_below n (λ r. eqb (get_or l r 0) 0 || leb (get_or l q 0) (get_or l r 0)) ≡ true) = and_true _ _ h in
      let listed : 0 < get_or l q 0 = ltb-true 0 (get_or l q 0) f.0 in
      let j : (j : ℕ) × (j < n) × (get_or l j 0 ≡ best_band n l) = best_attained n l some in
      let below : best_band n l ≤ get_or l q 0 = (best_least n l q inside listed).1 in
      case (or_true _ _ (all_true n _ f.1 j.0 j.1))
      (λ z. let e : get_or l j.0 0 ≡ 0 = eqb-true _ 0 z in omega arith)
      (λ z. let le : get_or l q 0 ≤ get_or l j.0 0 = leb-true _ _ z in omega arith)

  pub best_is : in_best_band n l q ≡ eqb (get_or l q 0) (best_band n l)
  best_is =
      case (eq_ne (get_or l q 0) (best_band n l))
      (λ e. rw (eq-eqb _ _ e, lt-ltb 0 (get_or l q 0) (omega arith)) (all_pass n _ (λ r below. least r below e)))
      (λ d. rw (ne_eqb _ _ d) (not_so _ (λ h. d (best_found h))))

-- COUNTS: a step counts the joints that it reaches
step_counts : (n : ℕ) (w : Work) (p : ℕ) → waits n w p ≡ true → (step n w p).proposals ≡ w.proposals + count_below n (λ q. in_best_band n (row w.lists p) q)
unfolding step
step_counts n w p waiting =
    let l = row w.lists p in
    let r : (j : ℕ) × (j < n) × (0 < get_or l j 0) = waits_listed n (get_or w.reach p 0) l waiting in
    let some : 0 < best_band n l = (best_least n l r.0 r.1 r.2).0 in
    ap (λ (m : ℕ). w.proposals + m) (count_same n _ _ (λ q inside. sym (best_is n l some q inside)))

pub proposals_added : ProposalsAdded
unfolding steps proposer lists_after sum_below
proposals_added n w w' stop = omega arith
proposals_added n w w' (then p h e rest) =
    let first = sum_first (steps rest) (λ i. count_below n (λ q. reached (then p h e rest) i q)) in
    omega (arith, first, step_counts n w p e, proposals_added n (step n w p) w' rest)

pub proposals_as_said : ProposalsAsSaid
proposals_as_said n t w run = omega (arith, proposals_added n (fresh t) w run)
