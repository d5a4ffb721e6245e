-- The test for standing proposals, and who waits, are what a run's history says.
use mathlib.Core.Path.{◌≡◌, refl, sym, ◌∙◌}
use mathlib.Core.Bool.{true, false}
use mathlib.Core.Logic.{◌⊎◌, inl, inr, ◌≢◌}
use Prim.Native.Nat.{ℕ, zero, suc, ◌≤◌, ◌<◌}
use native.Mathlib.Omega.{arith}
use lib.ListN.{get_or, set}
use lib.Seq.{get_or-set_same, get_or-set_other}
use borrow.Author.Tests.{le-leb, eq-eqb}
use Rattle.sheet.specs.Square.{at}
use Rattle.base.proofs.Cases.{case, lt_ge, eq_ne}
use Rattle.base.proofs.Tests.{not_so}
use Rattle.base.proofs.AnyBelow.{none_any}
use Rattle.roommates.specs.Lists.{Square, row, list_length, best_band}
use Rattle.roommates.specs.PhaseOne.{Work, fresh, stands, list_waits, waits, step}
use Rattle.roommates.specs.Runs.{Run, stop, then}
use Rattle.roommates.specs.Histories.{steps, proposer, lists_after, in_best_band, LastStep, UnstruckSince, StandsAfter, StandsAsSaid, WaitsAsSaid}
use Rattle.roommates.proofs.StrikesCompose.{was_there}
use Rattle.roommates.proofs.Rows.{listed_some, best_least}
use Rattle.roommates.proofs.Waiting.{stands_facts, facts_stands, StandsAt, waits_listed, waits_standing}
use Rattle.roommates.proofs.Sound.{Sound, Shrunk, shrunk_refl, promise_sound}
use Rattle.roommates.proofs.States.{Steady, fresh_steady, fresh_stands}
use Rattle.roommates.proofs.Steps.{step_steady}
use Rattle.roommates.proofs.Running.{run_steady, run_shrunk}
use Rattle.roommates.proofs.HistoriesReached.{best_found, best_is}

-- WHO STEPPED. From step i on, p makes none.
abbrev Silent : {n : ℕ} {w w' : Work} → Run n w w' → ℕ → ℕ → Type 0
Silent run p i = (j : ℕ) → i ≤ j → j < steps run → proposer run j ≢ p

-- `reach` of p is what it was, if p makes no step, and else the best band of p's list as its last step begins
abbrev Reach : {n : ℕ} {w w' : Work} → Run n w w' → ℕ → Type 0
Reach {n} {w} {w'} run p =
    (Silent run p 0 × (get_or w'.reach p 0 ≡ get_or w.reach p 0))
    ⊎ ((i : ℕ) × LastStep run p i × (get_or w'.reach p 0 ≡ best_band n (row (lists_after run i) p)))

module _ {n : ℕ} (w : Work) {w' : Work} (s : ℕ) (inside : s < n) (waiting : waits n w s ≡ true) (rest : Run n (step n w s) w') (p : ℕ) where
  later : (i : ℕ) → Silent rest p i → Silent (then s inside waiting rest) p (suc i)
  unfolding steps proposer
  later i h zero from to = absurd (omega arith)
  later i h (suc j) from to = h j (omega arith) (omega arith)

  not_first : s ≢ p → Silent rest p 0 → Silent (then s inside waiting rest) p 0
  unfolding steps proposer
  not_first d h zero from to = d
  not_first d h (suc j) from to = h j (omega arith) (omega arith)

  reach_then : Steady n w → Reach rest p → Reach (then s inside waiting rest) p
  unfolding steps proposer lists_after step
  reach_then st now =
      let k = best_band n (row w.lists s) in
      let own : get_or (set w.reach s k) s 0 ≡ k = get_or-set_same w.reach s k 0 (omega (arith, st.reach_length, st.sound.few_joints)) in
      case now
      (λ r. case (eq_ne s p)
      (λ e. inr (0, record { made = omega arith; by_p = e; none_later = later 0 r.0 }, r.1 ∙ rw (← e) own))
      (λ d. inl (not_first d r.0, r.1 ∙ get_or-set_other w.reach s p k 0 (λ e. d (sym e)))))
      (λ r. let last = r.1 in
      inr (suc r.0, record { made = omega (arith, last.made); by_p = last.by_p; none_later = later (suc r.0) last.none_later }, r.2))

reach_is : {n : ℕ} {w w' : Work} (run : Run n w w') → Steady n w → (p : ℕ) → Reach run p
unfolding steps
reach_is stop st p = inl (λ j from to. absurd (omega arith), refl)
reach_is {n} {w} (then s h e rest) st p = reach_then w s h e rest p st (reach_is rest (step_steady st s h e) p)

-- there is one last step
one_last : {n : ℕ} {w w' : Work} {run : Run n w w'} {p i j : ℕ} → LastStep run p i → LastStep run p j → i ≡ j
one_last {i = i} {j = j} a b =
    case (lt_ge i j)
    (λ l. absurd (a.none_later j l b.made b.by_p))
    (λ l. case (lt_ge j i)
    (λ m. absurd (b.none_later i m a.made a.by_p))
    (λ m. omega arith))

-- THE LISTS at any time of a run only lose pairs to its end
lists_end : {n : ℕ} {w w' : Work} (run : Run n w w') → lists_after run (steps run) ≡ w'.lists
unfolding steps lists_after
lists_end stop = refl
lists_end (then s h e rest) = lists_end rest

lists_shrunk : {n : ℕ} {w w' : Work} (run : Run n w w') → Steady n w → (i : ℕ) → Shrunk (lists_after run i) w'.lists
unfolding lists_after
lists_shrunk stop st i = shrunk_refl st.sound
lists_shrunk (then s h e rest) st zero = run_shrunk (then s h e rest) st
lists_shrunk (then s h e rest) st (suc i) = lists_shrunk rest (step_steady st s h e) i

-- STANDING, for a run from any sound lists
module _ {n : ℕ} {t : Square} {w : Work} (s : Sound n t) (run : Run n (fresh t) w) (p q : ℕ) where
  steady : Steady n w
  steady = run_steady run (fresh_steady s)

  shrunk : (i : ℕ) → Shrunk (lists_after run i) w.lists
  shrunk = lists_shrunk run (fresh_steady s)

  -- a pair that is on both lists at the end was on them at any time before
  unstruck : 0 < at w.lists p q → (i : ℕ) → UnstruckSince run i p q
  unstruck listed i j from to = (was_there (shrunk j).below p q listed, was_there (shrunk j).below q p ((shrunk j).below.both p q listed))

  pub stands_after_lem : StandsAt w.lists w.reach p q → StandsAfter run p q
  stands_after_lem h =
      let listed : 0 < at w.lists p q = omega arith in
      case (reach_is run (fresh_steady s) p)
      (λ r. absurd (fresh_stands t p q (omega arith, omega (arith, (run_shrunk run (fresh_steady s)).below.kept p q listed))))
      (λ r.
      let l = row (lists_after run r.0) p in
      let best : get_or l q 0 ≡ best_band n l = omega (arith, (shrunk r.0).below.kept p q listed) in
      let hit : in_best_band n l q ≡ true = best_is n l (omega arith) q (steady.sound.inside p q listed).1 ∙ eq-eqb (get_or l q 0) (best_band n l) best in
      (r.0, r.1, rw r.1.by_p hit, unstruck listed r.0))

  pub after_stands : StandsAfter run p q → StandsAt w.lists w.reach p q
  after_stands h =
      let i = h.0 in
      let l = row (lists_after run i) p in
      let listed : 0 < at w.lists p q = rw (lists_end run) at (h.3 (steps run) (omega (arith, h.1.made)) (omega arith)).0 in
      let inside : q < n = (steady.sound.inside p q listed).1 in
      let same : at w.lists p q ≡ get_or l q 0 = (shrunk i).below.kept p q listed in
      let some : 0 < best_band n l = (best_least n l q inside (omega arith)).0 in
      let best : get_or l q 0 ≡ best_band n l = best_found n l some q inside (rw h.1.by_p at h.2) in
      case (reach_is run (fresh_steady s) p)
      (λ r. absurd (r.0 i (omega arith) h.1.made h.1.by_p))
      (λ r.
      let reach : get_or w.reach p 0 ≡ best_band n l = rw (one_last r.1 h.1) at r.2 in
      (omega arith, omega arith))

pub stands_as_said : StandsAsSaid
stands_as_said n t w promise run p q =
    let s : Sound n t = promise_sound promise in
    let k = get_or w.reach p 0 in
    let b = at w.lists p q in (
      λ h. stands_after_lem s run p q (stands_facts k b h),
      λ h. let f : StandsAt w.lists w.reach p q = after_stands s run p q h in facts_stands k b f.0 f.1,
    )

pub waits_as_said : WaitsAsSaid
unfolding list_waits
waits_as_said n t w promise run p =
    let s : Sound n t = promise_sound promise in
    let l = row w.lists p in
    let k = get_or w.reach p 0 in (
      λ h.
          let some : (j : ℕ) × (j < n) × (0 < get_or l j 0) = waits_listed n k l h in (
            listed_some n l some.0 some.1 some.2,
            λ q a.
                let f : StandsAt w.lists w.reach p q = after_stands s run p q a in
                waits_standing n k l h q ((run_steady run (fresh_steady s)).sound.inside p q (omega arith)).1 f.0 f.1,
          ),
      λ h.
          let none : (q : ℕ) → q < n → stands k (get_or l q 0) ≡ false
          = λ q inside. not_so _ (λ e. h.1 q (stands_after_lem s run p q (stands_facts k (get_or l q 0) e))) in
          rw (le-leb 1 (list_length n l) h.0, none_any n (λ q. stands k (get_or l q 0)) none),
    )
