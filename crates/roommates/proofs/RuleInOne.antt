-- The rule's steps of phase one, made at once: phase one without choices runs to its end, and the rule goes on from there.
use mathlib.Core.Path.{◌≡◌, refl, sym, ◌∙◌, ap}
use mathlib.Core.Bool.{Bool, true}
use Prim.Native.Nat.{ℕ, zero, suc, ◌+◌, ◌<◌}
use native.Mathlib.Omega.{arith}
use lib.Dec.{eqb}
use borrow.Author.Tests.{eqb-false, lt-ltb, ne_eqb}
use Rattle.base.proofs.Cases.{case, both_ways}
use Rattle.base.proofs.Lowest.{lowest_at_most, lowest_passes, some_passes}
use Rattle.roommates.specs.declared.Stage.TheVariants.{Proposing}
use Rattle.roommates.specs.Lists.{Square}
use Rattle.roommates.specs.PhaseOne.{Work, fuel, waits, step, lowest_waiting, run_out, phase_one}
use Rattle.roommates.specs.Moves.{in_one, Outcome, outcome, move, ruled, concluded, turns}
use Rattle.roommates.specs.Runs.{Run, stop, then, Arrived, in_phase_one, none_in_one, lists_left, in_phase_two, none_in_two, all_short}
use Rattle.roommates.proofs.Sound.{Sound}
use Rattle.roommates.proofs.Stages.{phases_differ, one_goes_on}
use Rattle.roommates.proofs.Running.{runs_out}
use Rattle.roommates.proofs.Arrivals.{step_stage, move_one, ruled_one, one_arrives}
use Rattle.roommates.proofs.WorkingsEnd.{rule_ends, stays}
use mathlib.Core.Logic.{inl, inr}

run_then : {n : ℕ} {u v w : Work} → Run n u v → Run n v w → Run n u w
run_then stop r = r
run_then (then p l e q) r = then p l e (run_then q r)

run_stage : {n : ℕ} {w v : Work} → Run n w v → v.stage ≡ w.stage
run_stage stop = refl
run_stage {n} {w} (then p l e r) = run_stage r ∙ step_stage n w p

module _ (whole : Bool) (n : ℕ) where
  pub conclude_more : (g k m : ℕ) (w : Work) → g ≡ k + m → concluded g whole n w ≡ concluded k whole n (concluded m whole n w)
  unfolding concluded
  conclude_more g k zero w e = let i : g ≡ k = omega arith in ap (λ (f : ℕ). concluded f whole n w) i
  conclude_more g k (suc m) w e =
      let i : g ≡ suc (k + m) = omega arith in
      ap (λ (f : ℕ). concluded f whole n w) i ∙ conclude_more (k + m) k m (move whole n w (ruled n w)).work_is refl

  -- where somebody waits, the rule's move is a step of the lowest
  rule_steps : (f : ℕ) (w : Work) → w.stage ≡ Proposing → lowest_waiting n w < n
      → concluded (suc f) whole n w ≡ concluded f whole n (in_one whole n (step n w (lowest_waiting n w)))
  unfolding concluded
  rule_steps f w h l =
      let low : ℕ = lowest_waiting n w in
      let ok : waits n w low ≡ true = lowest_passes n (λ p. waits n w p) l in
      let m : move whole n w low ≡ outcome 0 (in_one whole n (step n w low)) = move_one whole n w low h ∙ rw (lt-ltb low n l, ok) refl in
      ap (λ (x : ℕ). concluded f whole n (move whole n w x).work_is) (ruled_one n w h)
      ∙ ap (λ (o : Outcome). concluded f whole n o.work_is) m

  -- phase one goes on where somebody waits
  goes_on : (w : Work) → lowest_waiting n w < n → in_one whole n w ≡ w
  unfolding in_one
  goes_on w l = rw (ne_eqb (lowest_waiting n w) n (omega arith)) refl

  -- k steps at once are j moves of the rule
  AtOnce : ℕ → Work → ℕ → Type 0
  AtOnce k w j = (g f : ℕ) → g ≡ f + j → concluded g whole n (in_one whole n w) ≡ concluded f whole n (in_one whole n (run_out k n w))

  none_more : (w v : Work) → w ≡ v → (g f : ℕ) → g ≡ f + 0 → concluded g whole n (in_one whole n w) ≡ concluded f whole n (in_one whole n v)
  none_more w v h g f e =
      let i : g ≡ f = omega arith in
      ap (λ (x : ℕ). concluded x whole n (in_one whole n w)) i ∙ ap (λ (x : Work). concluded f whole n (in_one whole n x)) h

  at_once : (k : ℕ) (w : Work) → w.stage ≡ Proposing → (j : ℕ) × AtOnce k w j
  unfolding run_out AtOnce
  at_once zero w h = (0, none_more w w refl)
  at_once (suc k) w h =
      let low : ℕ = lowest_waiting n w in
      case (both_ways (eqb low n))
      (λ b. (0, none_more w _ (rw b refl)))
      (λ b.
      let l : low < n = let d = eqb-false low n b in omega (arith, lowest_at_most n (λ p. waits n w p)) in
      let rest = at_once k (step n w low) (step_stage n w low ∙ h) in
      let j : ℕ = rest.0 in (
        suc j,
        λ g f e.
            let i : g ≡ suc (f + j) = omega arith in
            rw b (ap (λ (x : ℕ). concluded x whole n (in_one whole n w)) i
            ∙ (ap (concluded (suc (f + j)) whole n) (goes_on w l) ∙ (rule_steps (f + j) w h l ∙ rest.1 (f + j) f refl))),
      ))

module _ {whole : Bool} {n : ℕ} {t : Square} (s : Sound n t) where
  pub waiting : {w : Work} → Arrived whole n t w → w.stage ≡ Proposing → lowest_waiting n w < n
  waiting {w} (in_phase_one h r p l e) g = some_passes n (λ p. waits n w p) p l e
  waiting (none_in_one v h e bad) g = absurd (one_goes_on g (inl (ap (λ u. u.stage) h)))
  waiting (lists_left k v h e ok) g = absurd (one_goes_on g (inr (inr (ap (λ u. u.stage) h))))
  waiting (in_phase_two k h b x l e) g = absurd (phases_differ g h)
  waiting (none_in_two k h b x l e f) g = absurd (one_goes_on g (inr (inl h)))
  waiting (all_short k h b short) g = absurd (one_goes_on g (inr (inr h)))

  pub phase_one_at_once : {w : Work} → Arrived whole n t w → w.stage ≡ Proposing
      → concluded (turns n) whole n w ≡ concluded (turns n) whole n (in_one whole n (phase_one n w))
  unfolding AtOnce
  phase_one_at_once {w} a h =
      let once = at_once whole n (fuel n) w h in
      let j : ℕ = once.0 in
      let most : ℕ = turns n in
      let order : most + j ≡ j + most = omega arith in
      sym (conclude_more whole n (most + j) j most w order ∙ stays whole n j (concluded most whole n w) (rule_ends whole n s a))
      ∙ (sym (ap (concluded (most + j) whole n) (goes_on whole n w (waiting a h))) ∙ once.1 (most + j) most refl)

  pub at_once_arrives : {w : Work} → Arrived whole n t w → w.stage ≡ Proposing → Arrived whole n t (in_one whole n (phase_one n w))
  at_once_arrives {w} (in_phase_one h r p l e) g =
      let more = (runs_out (fuel n) n w).run in
      one_arrives (run_stage more ∙ g) (run_then r more)
  at_once_arrives (none_in_one v h e bad) g = absurd (one_goes_on g (inl (ap (λ u. u.stage) h)))
  at_once_arrives (lists_left k v h e ok) g = absurd (one_goes_on g (inr (inr (ap (λ u. u.stage) h))))
  at_once_arrives (in_phase_two k h b x l e) g = absurd (phases_differ g h)
  at_once_arrives (none_in_two k h b x l e f) g = absurd (one_goes_on g (inr (inl h)))
  at_once_arrives (all_short k h b short) g = absurd (one_goes_on g (inr (inr h)))
