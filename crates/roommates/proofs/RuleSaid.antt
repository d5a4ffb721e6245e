-- Where choices have run out: to leave off is to choose the joint that the rule names.
use mathlib.Core.Path.{◌≡◌, refl, sym, ◌∙◌, ap, subst}
use mathlib.Core.Bool.{Bool}
use mathlib.Core.Logic.{inl, inr}
use mathlib.Core.List.{List, [], ◌∷◌, ◌++◌, append-nil}
use Prim.Native.Nat.{ℕ, suc, ◌<◌}
use native.Mathlib.Omega.{arith}
use Rattle.base.proofs.Cases.{case, lt_ge}
use Rattle.base.proofs.Argmax.{Greatest}
use Rattle.base.proofs.Lowest.{lowest_passes, lower_fails}
use Rattle.roommates.specs.declared.Stage.TheVariants.{Proposing, Cutting}
use Rattle.roommates.specs.Lists.{Square}
use Rattle.roommates.specs.PhaseOne.{Work, waits, lowest_waiting}
use Rattle.roommates.specs.PhaseTwo.{longest_list}
use Rattle.roommates.specs.Moves.{begun, Outcome, outcome, move, ruled, moves, concluded, turns, carried_out, worked}
use Rattle.roommates.specs.Runs.{Arrived, in_phase_one, none_in_one, lists_left, in_phase_two, none_in_two, all_short}
use Rattle.roommates.specs.Claims.{Made, LowestWaiting, LongestList, RuleSaid}
use Rattle.roommates.proofs.Sound.{Sound, promise_sound}
use Rattle.roommates.proofs.Stages.{Over, one_goes_on, two_goes_on}
use Rattle.roommates.proofs.Longest.{longest_greatest, longest_inside}
use Rattle.roommates.proofs.Arrivals.{ruled_one, ruled_two, moves_arrive, begun_arrives}
use Rattle.roommates.proofs.WorkingsEnd.{rule_moves, rule_ends, stays}
use Rattle.roommates.proofs.RuleInOne.{conclude_more, waiting}
use Rattle.roommates.proofs.ChoicesRefused.{moves_on, made_moves}

-- in phase two there is a joint
some_joint : {whole : Bool} {n : ℕ} {t : Square} {w : Work} → Arrived whole n t w → w.stage ≡ Cutting → 0 < n
some_joint (in_phase_one h r p l e) g = omega arith
some_joint (none_in_one v h e bad) g = absurd (two_goes_on g (inl (ap (λ u. u.stage) h)))
some_joint (lists_left k v h e ok) g = absurd (two_goes_on g (inr (inr (ap (λ u. u.stage) h))))
some_joint (in_phase_two k h b x l e) g = omega arith
some_joint (none_in_two k h b x l e f) g = omega arith
some_joint (all_short k h b short) g = absurd (two_goes_on g (inr (inr h)))

module _ (whole : Bool) (n : ℕ) {t : Square} (s : Sound n t) where
  one_more : (f : ℕ) (w : Work) → concluded (suc f) whole n w ≡ concluded f whole n (move whole n w (ruled n w)).work_is
  unfolding concluded
  one_more f w = refl

  -- one move of the rule makes no difference to where it ends
  rule_first : {w : Work} → Arrived whole n t w → concluded (turns n) whole n w ≡ concluded (turns n) whole n (move whole n w (ruled n w)).work_is
  rule_first {w} a =
      let most : ℕ = turns n in
      sym (conclude_more whole n (suc most) 1 most w (omega arith) ∙ stays whole n 1 (concluded most whole n w) (rule_ends whole n s a)) ∙ one_more most w

  module _ (cs : List ℕ) {w : Work} (m : Made whole n (begun whole n t) cs w) where
    all_made : moves whole n (begun whole n t) cs ≡ outcome 0 w
    unfolding moves
    all_made = ap (moves whole n (begun whole n t)) (sym (append-nil cs)) ∙ made_moves whole n m []

    arrived : Arrived whole n t w
    arrived = subst (λ (o : Outcome). Arrived whole n t o.work_is) all_made (moves_arrive cs begun_arrives)

    left_off : worked whole n t cs ≡ outcome 0 (concluded (turns n) whole n w)
    unfolding worked
    left_off = ap (carried_out whole n) all_made

    chosen_too : (x : ℕ) {v : Work} → move whole n w x ≡ outcome 0 v → worked whole n t (cs ++ (x ∷ [])) ≡ outcome 0 (concluded (turns n) whole n v)
    unfolding worked moves
    chosen_too x e = ap (carried_out whole n) (made_moves whole n m (x ∷ []) ∙ moves_on whole n w x [] e)

    alike : (x : ℕ) → ruled n w ≡ x → (Over w.stage → ⊥) → worked whole n t cs ≡ worked whole n t (cs ++ (x ∷ []))
    alike x names goes_on =
        case (rule_moves whole n arrived)
        (λ over. absurd (goes_on over))
        (λ made.
        let r : ℕ = ruled n w in
        let v : Work = (move whole n w r).work_is in
        let moved : move whole n w r ≡ outcome 0 v = ap (λ k. outcome k v) made.0 in
        left_off ∙ (ap (outcome 0) (rule_first arrived) ∙ (sym (chosen_too r moved) ∙ ap (λ y. worked whole n t (cs ++ (y ∷ []))) names)))

    lowest_waits : w.stage ≡ Proposing → LowestWaiting n w (lowest_waiting n w)
    lowest_waits h =
        let l : lowest_waiting n w < n = waiting s arrived h in
        record { inside = l; waiting = lowest_passes n _ l; lower_not = lower_fails n (λ p. waits n w p) }

    longest_is : w.stage ≡ Cutting → LongestList n w.lists (longest_list n w.lists)
    longest_is h =
        let g : Greatest n _ (longest_list n w.lists) = longest_greatest n w.lists in
        record {
          inside = longest_inside n w.lists refl n (omega arith) (some_joint arrived h);
          none_longer = g.at_most;
          among_equals = λ y l e. case (lt_ge (longest_list n w.lists) y) (λ h. absurd (omega (arith, g.higher_less y h l))) (λ h. h);
        }

pub rule_said : RuleSaid
rule_said whole n t promise cs w m =
    let s : Sound n t = promise_sound promise in
    record {
      in_phase_one = λ h.
          (lowest_waiting n w, lowest_waits whole n s cs m h, alike whole n s cs m _ (ruled_one n w h) (one_goes_on h));
      in_phase_two = λ h.
          (longest_list n w.lists, longest_is whole n s cs m h, alike whole n s cs m _ (ruled_two n w h) (two_goes_on h));
    }
