-- The counts of every working, and that the rule takes it to an end: each of its moves makes a proposal or a cut.
use mathlib.Core.Path.{◌≡◌, refl, sym, ◌∙◌, ap, subst}
use mathlib.Core.Bool.{Bool, true, false}
use mathlib.Core.Logic.{◌⊎◌, inl, inr}
use mathlib.Core.List.{List}
use Prim.Native.Nat.{ℕ, zero, suc, ◌+◌, ◌*◌, ◌≤◌, ◌<◌}
use native.Mathlib.Omega.{arith}
use lib.Dec.{eqb}
use borrow.Author.Tests.{eqb-false, lt-ltb}
use Rattle.base.proofs.Cases.{case}
use Rattle.base.proofs.Tests.{never}
use Rattle.base.proofs.Lowest.{lowest_passes, some_passes}
use Rattle.roommates.specs.Lists.{Square, row, list_length}
use Rattle.roommates.specs.PhaseOne.{Work, fresh, waits, step, lowest_waiting, some_emptied}
use Rattle.roommates.specs.PhaseTwo.{Cut, kept, neither, cut_at, longer, longest_list}
use Rattle.roommates.specs.Moves.{with_cut, in_two, end_one, in_one, begun, Outcome, outcome, after_cut, move, ruled, moves, concluded, turns, carried_out, worked}
use Rattle.roommates.specs.Runs.{Run, OneEnded, Cuts, uncut, cut_then, cuts_made, ByCuts, Arrived, in_phase_one, none_in_one, lists_left, in_phase_two, none_in_two, all_short}
use Rattle.roommates.specs.Histories.{TrialsPromise}
use Rattle.roommates.specs.Left.{entry_count}
use Rattle.roommates.proofs.Sound.{Sound, Shrunk, promise_sound, shrunk_trans, shrunk_sound, shrunk_promise}
use Rattle.roommates.proofs.Trims.{strike_band_shrunk}
use Rattle.roommates.proofs.States.{fresh_steady}
use Rattle.roommates.proofs.Steps.{step_proposes, step_cuts}
use Rattle.roommates.proofs.Running.{run_shrunk, run_cuts}
use Rattle.roommates.proofs.EntryCounts.{entries_list, entries_bound, entries_kept}
use Rattle.roommates.proofs.FewProposals.{few_proposals}
use Rattle.roommates.proofs.CutsStrike.{CutTo, cut_to, longer_two, cuts_shrunk}
use Rattle.roommates.proofs.Stages.{Over}
use Rattle.roommates.proofs.Longest.{longest_inside, longest_longer}
use Rattle.roommates.proofs.Arrivals.{by_test, move_one, move_two, move_over, ruled_one, ruled_two, move_arrives, moves_arrive, begun_arrives}

-- each cut takes two entries
cuts_few : {n : ℕ} {aside : List ℕ} {t u : Square} → Sound n t → (c : Cuts n aside t u) → 2 * cuts_made c + entry_count n u ≤ entry_count n t
unfolding cuts_made
cuts_few s uncut = omega arith
cuts_few {aside = aside} s (cut_then x l long e r) =
    let c : CutTo _ _ _ = cut_to s aside x l long e in
    let rest = cuts_few (shrunk_sound s c.shrunk) r in
    omega (arith, c.less)

module _ {n : ℕ} {t : Square} (s : Sound n t) where
  one_shrunk : {w : Work} → OneEnded n t w → Shrunk t w.lists
  one_shrunk e = run_shrunk e.run (fresh_steady s)

  by_cuts_shrunk : {w : Work} {k : ℕ} → ByCuts n t w k → Shrunk t w.lists
  by_cuts_shrunk b = shrunk_trans (one_shrunk b.ended) (cuts_shrunk (shrunk_sound s (one_shrunk b.ended)) b.made)

  -- its lists are those that it began with, with pairs struck
  pub arrived_shrunk : {whole : Bool} {w : Work} → Arrived whole n t w → Shrunk t w.lists
  arrived_shrunk (in_phase_one h r p l e) = run_shrunk r (fresh_steady s)
  arrived_shrunk (none_in_one v h e bad) = rw h (one_shrunk e)
  arrived_shrunk (lists_left wh v h e ok) = rw h (one_shrunk e)
  arrived_shrunk (in_phase_two wh h b x l e) = by_cuts_shrunk b
  arrived_shrunk (none_in_two wh h b x l e f) = by_cuts_shrunk b
  arrived_shrunk (all_short wh h b short) = by_cuts_shrunk b

  abbrev Few : Work → Type 0
  Few w = (w.proposals ≤ n * n) × (2 * w.cuts ≤ entry_count n t)

  run_few : {w : Work} → Run n (fresh t) w → Few w
  run_few r = let c = run_cuts r in (few_proposals s r, omega arith)

  by_cuts_few : {w : Work} {k : ℕ} → ByCuts n t w k → 2 * k ≤ entry_count n w.lists → Few w
  by_cuts_few b h =
      let p = b.proposals_are in
      let c = b.cuts_are in
      let few = few_proposals s b.ended.run in
      let less = cuts_few (shrunk_sound s (one_shrunk b.ended)) b.made in
      let whole = entries_kept n t b.one.lists (one_shrunk b.ended).below in
      (omega arith, omega arith)

  pub arrived_few : {whole : Bool} {w : Work} → Arrived whole n t w → Few w
  arrived_few (in_phase_one h r p l e) = run_few r
  arrived_few (none_in_one v h e bad) = rw h (run_few e.run)
  arrived_few (lists_left wh v h e ok) = rw h (run_few e.run)
  arrived_few (in_phase_two wh h b x l e) = by_cuts_few b (omega arith)
  arrived_few {w = w} (none_in_two wh h b x l e f) =
      let two : 2 ≤ list_length n (row w.lists x) = longer_two n w.lists x e in
      let all : list_length n (row w.lists x) ≤ entry_count n w.lists = entries_list n w.lists x l in
      by_cuts_few b (omega arith)
  arrived_few (all_short wh h b short) = by_cuts_few b (omega arith)

pub shorten_uncut : {n : ℕ} {t : Square} {w : Work} → Arrived false n t w → w.cuts ≡ 0
shorten_uncut (in_phase_one h r p l e) = run_cuts r
shorten_uncut (none_in_one v h e bad) = rw h (run_cuts e.run)
shorten_uncut (lists_left wh v h e ok) = rw h (run_cuts e.run)
shorten_uncut (in_phase_two wh h b x l e) = absurd (never _ wh refl)
shorten_uncut (none_in_two wh h b x l e f) = absurd (never _ wh refl)
shorten_uncut (all_short wh h b short) = absurd (never _ wh refl)

-- how far a working is
abbrev far : Work → ℕ
far w = w.proposals + w.cuts

module _ (whole : Bool) (n : ℕ) where
  two_far : (w : Work) → far (in_two n w) ≡ far w
  unfolding in_two
  two_far w = refl

  one_far : (w : Work) → far (in_one whole n w) ≡ far w
  unfolding in_one end_one
  one_far w =
      by_test Same (eqb (lowest_waiting n w) n)
      (λ e. by_test Same (some_emptied n w) (λ e. refl) (λ e. by_test Same whole (λ e. two_far _) (λ e. refl)))
      (λ e. refl)
    where
      Same : Work → Type 0
      Same v = far v ≡ far w

  cut_far : (w : Work) (c : Cut) → far (after_cut n w c) ≡ suc (far w)
  cut_far w (kept u) = let e = two_far (with_cut u w) in omega arith
  cut_far w neither = omega arith

  -- the rule's move: there is none at an end, and else it is made and goes further
  pub rule_moves : {t : Square} {w : Work} → Arrived whole n t w
      → Over w.stage ⊎ (((move whole n w (ruled n w)).refusal ≡ 0) × (far w < far (move whole n w (ruled n w)).work_is))
  rule_moves {t} {w} (in_phase_one h r p l e) =
      let test : ℕ → Bool = λ p. waits n w p in
      let q : ℕ = lowest_waiting n w in
      let lq : q < n = some_passes n test p l e in
      let eq : waits n w q ≡ true = lowest_passes n test lq in
      let m : move whole n w q ≡ outcome 0 (in_one whole n (step n w q)) = move_one whole n w q h ∙ rw (lt-ltb q n lq, eq) refl in
      let more = step_proposes n w q eq in
      let cuts = step_cuts n w q in
      let same = one_far (step n w q) in
      inr (rw (ruled_one n w h, m) (refl, omega arith))
  rule_moves (none_in_one v h e bad) = inl (inl (ap (λ u. u.stage) h))
  rule_moves (lists_left wh v h e ok) = inl (inr (inr (ap (λ u. u.stage) h)))
  rule_moves {t} {w} (in_phase_two wh h b x l e) =
      let q : ℕ = longest_list n w.lists in
      let lq : q < n = longest_inside n w.lists refl n (omega arith) (omega arith) in
      let eq : longer n w.lists q ≡ true = longest_longer n w.lists x l e in
      let c : Cut = cut_at n w.aside w.lists q in
      let m : move whole n w q ≡ outcome 0 (after_cut n w c) = move_two whole n w q h ∙ rw (lt-ltb q n lq, eq) refl in
      let more = cut_far w c in
      inr (rw (ruled_two n w h, m) (refl, omega arith))
  rule_moves (none_in_two wh h b x l e f) = inl (inr (inl h))
  rule_moves (all_short wh h b short) = inl (inr (inr h))

  -- an end stays
  pub stays : (f : ℕ) (w : Work) → Over w.stage → concluded f whole n w ≡ w
  unfolding concluded
  stays zero w h = refl
  stays (suc f) w h = rw (move_over whole n w (ruled n w) h) (stays f w h)

  module _ {t : Square} (s : Sound n t) where
    ends : (f : ℕ) {w : Work} → Arrived whole n t w → n * n + n * n < far w + f → Over (concluded f whole n w).stage
    unfolding concluded
    ends zero {w} a enough =
        let few = arrived_few s a in
        let few0 = few.0 in
        let few1 = few.1 in
        let all = entries_bound n t in
        absurd (omega arith)
    ends (suc f) {w} a enough =
        case (rule_moves a)
        (λ h. subst (λ (v : Work). Over v.stage) (sym (stays (suc f) w h)) h)
        (λ h. let more = h.1 in ends f (move_arrives a (ruled n w)) (omega arith))

    pub rule_ends : {w : Work} → Arrived whole n t w → Over (concluded (turns n) whole n w).stage
    rule_ends a = ends (turns n) a (omega arith)

    pub carried_ends : (o : Outcome) → Arrived whole n t o.work_is → (carried_out whole n o).refusal ≡ 0 → Over (carried_out whole n o).work_is.stage
    carried_ends o a =
        by_test (λ (o : Outcome). o.refusal ≡ 0 → Over o.work_is.stage) (eqb o.refusal 0) (λ e z. rule_ends a) (λ e z. absurd (eqb-false _ _ e z))

    pub worked_ends : (cs : List ℕ) → (worked whole n t cs).refusal ≡ 0 → Over (worked whole n t cs).work_is.stage
    unfolding worked
    worked_ends cs = carried_ends (moves whole n (begun whole n t) cs) (moves_arrive cs begun_arrives)

pub trials_promise : TrialsPromise
trials_promise n t promise w a v =
    let kept = shrunk_promise promise (arrived_shrunk (promise_sound promise) a) in
    shrunk_promise kept (strike_band_shrunk (promise_sound kept) v _)
