-- Every working is a run: whatever choices and the rule do, it arrives by steps of joints that wait, and by cuts.
use mathlib.Core.Path.{◌≡◌, refl, ◌∙◌, ap}
use mathlib.Core.Bool.{Bool, true, false, ◌&&◌, cond}
use mathlib.Core.Logic.{inl, inr}
use mathlib.Core.List.{List, [], ◌∷◌}
use Prim.Native.Nat.{ℕ, zero, suc, ◌<◌}
use native.Mathlib.Omega.{arith}
use lib.Dec.{eqb, ltb}
use borrow.Author.Tests.{eqb-true, eqb-false, ltb-true}
use Rattle.base.specs.Below.{any_below}
use Rattle.base.proofs.Cases.{case, both_ways}
use Rattle.base.proofs.Tests.{and_true}
use Rattle.base.proofs.AnyBelow.{any_true, any_none}
use Rattle.base.proofs.Lowest.{none_passes, lowest_at_most, lowest_passes}
use Rattle.roommates.specs.declared.Stage.{Stage}
use Rattle.roommates.specs.declared.Stage.TheVariants.{Proposing, Cutting, Paired}
use Rattle.roommates.specs.Lists.{Square}
use Rattle.roommates.specs.PhaseOne.{Work, fresh, waits, step, lowest_waiting, some_emptied}
use Rattle.roommates.specs.PhaseTwo.{Cut, kept, neither, cut_at, longer, longest_list}
use Rattle.roommates.specs.Moves.{staged, in_two, end_one, in_one, begun, Outcome, outcome, after_cut, move, ruled, moves, concluded, turns, carried_out, worked}
use Rattle.roommates.specs.Runs.{Run, stop, then, OneEnded, Cuts, uncut, cut_then, cuts_made, ByCuts, Arrived, in_phase_one, none_in_one, lists_left, in_phase_two, none_in_two, all_short}
use Rattle.roommates.proofs.Running.{run_cuts}
use Rattle.roommates.proofs.Stages.{Over}

-- what holds of both outcomes of a test holds of the choice between them
pub by_test {ℓ κ} : {A : Type κ} (P : A → Type ℓ) (b : Bool) {x y : A} → (b ≡ true → P x) → (b ≡ false → P y) → P (cond b x y)
by_test P true f g = f refl
by_test P false f g = g refl

-- one step, and one kept cut, more
run_step : {n : ℕ} {w v : Work} → Run n w v → (p : ℕ) → p < n → waits n v p ≡ true → Run n w (step n v p)
run_step stop p l e = then p l e stop
run_step (then q lq eq r) p l e = then q lq eq (run_step r p l e)

module _ {n : ℕ} {aside : List ℕ} where
  more_cuts : {t u v : Square} → Cuts n aside t u → (x : ℕ) → x < n → longer n u x ≡ true → cut_at n aside u x ≡ kept v → Cuts n aside t v
  more_cuts uncut x l long e = cut_then x l long e uncut
  more_cuts (cut_then y ly longy ey r) x l long e = cut_then y ly longy ey (more_cuts r x l long e)

  one_more : {t u v : Square} (c : Cuts n aside t u) (x : ℕ) (l : x < n) (long : longer n u x ≡ true) (e : cut_at n aside u x ≡ kept v)
      → cuts_made (more_cuts c x l long e) ≡ suc (cuts_made c)
  unfolding cuts_made more_cuts
  one_more uncut x l long e = refl
  one_more (cut_then y ly longy ey r) x l long e = ap suc (one_more r x l long e)

at_stage : {n : ℕ} {t : Square} {w : Work} {k : ℕ} (s : Stage) → ByCuts n t w k → ByCuts n t (staged s w) k
at_stage s b = record {
  one = b.one;
  ended = b.ended;
  unemptied = b.unemptied;
  aside_is = b.aside_is;
  made = b.made;
  proposals_are = b.proposals_are;
  cuts_are = b.cuts_are;
}

pub step_stage : (n : ℕ) (w : Work) (p : ℕ) → (step n w p).stage ≡ w.stage
unfolding step
step_stage n w p = refl

module _ {whole : Bool} {n : ℕ} {t : Square} where
  two_arrives : {w : Work} → whole ≡ true → ByCuts n t w 0 → Arrived whole n t (in_two n w)
  unfolding in_two
  two_arrives {w} h b =
      let test : ℕ → Bool = λ x. longer n w.lists x in
      case (both_ways (any_below n test))
      (λ e. let x = any_true n test e in rw e (in_phase_two h refl (at_stage Cutting b) x.0 x.1 x.2))
      (λ e. rw e (all_short h refl (at_stage Paired b) (any_none n test e)))

  -- where phase one has ended: shorten's working too, and settle's goes on to phase two
  end_arrives : {w : Work} → OneEnded n t w → Arrived whole n t (end_one whole n w)
  unfolding end_one cuts_made
  end_arrives {w} e =
      by_test (Arrived whole n t) (some_emptied n w)
      (λ bad. none_in_one w refl e bad)
      (λ ok. by_test (Arrived whole n t) whole
      (λ h.
      two_arrives h record {
        one = w;
        ended = e;
        unemptied = ok;
        aside_is = refl;
        made = uncut;
        proposals_are = refl;
        cuts_are = run_cuts e.run;
      })
      (λ h. lists_left h w refl e ok))

  pub one_arrives : {w : Work} → w.stage ≡ Proposing → Run n (fresh t) w → Arrived whole n t (in_one whole n w)
  unfolding in_one
  one_arrives {w} h r =
      let test : ℕ → Bool = λ p. waits n w p in
      let low : ℕ = lowest_waiting n w in
      by_test (Arrived whole n t) (eqb low n)
      (λ e. end_arrives record { run = r; quiet = none_passes n test (eqb-true low n e) })
      (λ e.
      let l : low < n = let d = eqb-false low n e in omega (arith, lowest_at_most n test) in
      in_phase_one h r low l (lowest_passes n test l))

  cut_arrives : {w : Work} → whole ≡ true → ByCuts n t w 0 → (x : ℕ) → x < n → longer n w.lists x ≡ true
      → (c : Cut) → cut_at n w.aside w.lists x ≡ c → Arrived whole n t (after_cut n w c)
  cut_arrives {w} h b x l long (kept u) e =
      two_arrives h record {
        one = b.one;
        ended = b.ended;
        unemptied = b.unemptied;
        aside_is = b.aside_is;
        made = more_cuts b.made x l long e;
        proposals_are = b.proposals_are;
        cuts_are = let m = b.cuts_are in let k = one_more b.made x l long e in omega arith;
      }
  cut_arrives {w} h b x l long neither e =
      none_in_two h refl record {
        one = b.one;
        ended = b.ended;
        unemptied = b.unemptied;
        aside_is = b.aside_is;
        made = b.made;
        proposals_are = b.proposals_are;
        cuts_are = let m = b.cuts_are in omega arith;
      }
      x l long e

-- a move by its stage; nothing moves an end
module _ (whole : Bool) (n : ℕ) (w : Work) (x : ℕ) where
  pub move_one : w.stage ≡ Proposing → move whole n w x ≡ cond (ltb x n && waits n w x) (outcome 0 (in_one whole n (step n w x))) (outcome 11 w)
  unfolding move
  move_one e = rw e

  pub move_two : w.stage ≡ Cutting
      → move whole n w x ≡ cond (ltb x n && longer n w.lists x) (outcome 0 (after_cut n w (cut_at n w.aside w.lists x))) (outcome 12 w)
  unfolding move
  move_two e = rw e

  pub move_over : Over w.stage → move whole n w x ≡ outcome 13 w
  unfolding move
  move_over h = case h (λ e. rw e) (λ h. case h (λ e. rw e) (λ e. rw e))

-- the rule by its stage
module _ (n : ℕ) (w : Work) where
  pub ruled_one : w.stage ≡ Proposing → ruled n w ≡ lowest_waiting n w
  unfolding ruled
  ruled_one e = rw e

  pub ruled_two : w.stage ≡ Cutting → ruled n w ≡ longest_list n w.lists
  unfolding ruled
  ruled_two e = rw e

module _ {whole : Bool} {n : ℕ} {t : Square} where
  pub move_arrives : {w : Work} → Arrived whole n t w → (x : ℕ) → Arrived whole n t (move whole n w x).work_is
  move_arrives {w} a x = at_work (by_stage a)
    where
      Ends : Outcome → Type 0
      Ends o = Arrived whole n t o.work_is

      at_work : Ends (move whole n w x) → Arrived whole n t (move whole n w x).work_is
      at_work h = h

      over : Over w.stage → Ends (move whole n w x)
      over h = rw (move_over whole n w x h) a

      by_stage : Arrived whole n t w → Ends (move whole n w x)
      by_stage (in_phase_one h r p l e) =
          rw (move_one whole n w x h)
          (by_test Ends (ltb x n && waits n w x)
          (λ ok.
          let b : (ltb x n ≡ true) × (waits n w x ≡ true) = and_true _ _ ok in
          one_arrives (step_stage n w x ∙ h) (run_step r x (ltb-true x n b.0) b.1))
          (λ bad. a))
      by_stage (none_in_one v h e bad) = over (inl (ap (λ u. u.stage) h))
      by_stage (lists_left wh v h e ok) = over (inr (inr (ap (λ u. u.stage) h)))
      by_stage (in_phase_two wh h c p l e) =
          rw (move_two whole n w x h)
          (by_test Ends (ltb x n && longer n w.lists x)
          (λ ok.
          let b : (ltb x n ≡ true) × (longer n w.lists x ≡ true) = and_true _ _ ok in
          cut_arrives wh c x (ltb-true x n b.0) b.1 (cut_at n w.aside w.lists x) refl)
          (λ bad. a))
      by_stage (none_in_two wh h c p l e f) = over (inr (inl h))
      by_stage (all_short wh h c short) = over (inr (inr h))

  pub moves_arrive : (cs : List ℕ) {w : Work} → Arrived whole n t w → Arrived whole n t (moves whole n w cs).work_is
  unfolding moves
  moves_arrive [] a = a
  moves_arrive (x ∷ cs) {w} a =
      by_test (λ (o : Outcome). Arrived whole n t o.work_is) (eqb (move whole n w x).refusal 0)
      (λ e. moves_arrive cs (move_arrives a x))
      (λ e. move_arrives a x)

  pub concluded_arrives : (f : ℕ) {w : Work} → Arrived whole n t w → Arrived whole n t (concluded f whole n w)
  unfolding concluded
  concluded_arrives zero a = a
  concluded_arrives (suc f) {w} a = concluded_arrives f (move_arrives a (ruled n w))

  pub begun_arrives : Arrived whole n t (begun whole n t)
  begun_arrives = one_arrives refl stop

  -- whatever the choices left, and however they were given
  pub carried_arrives : (o : Outcome) → Arrived whole n t o.work_is → Arrived whole n t (carried_out whole n o).work_is
  carried_arrives o a =
      by_test (λ (o : Outcome). Arrived whole n t o.work_is) (eqb o.refusal 0) (λ e. concluded_arrives (turns n) a) (λ e. a)

  pub worked_arrives : (cs : List ℕ) → Arrived whole n t (worked whole n t cs).work_is
  unfolding worked
  worked_arrives cs = carried_arrives (moves whole n (begun whole n t) cs) (moves_arrive cs begun_arrives)
