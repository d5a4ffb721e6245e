-- Which choices are refused, and why: for every list, settle's and shorten's.
use mathlib.Core.Path.{◌≡◌, refl, sym, ◌∙◌, ap, subst}
use mathlib.Core.Bool.{Bool, true, false, ◌&&◌}
use mathlib.Core.Logic.{◌⊎◌, inl, inr, ◌≢◌}
use mathlib.Core.List.{List, [], ◌∷◌, ◌++◌, append_assoc}
use Prim.Native.Nat.{ℕ, ◌≤◌, ◌<◌}
use native.Mathlib.Omega.{arith}
use lib.Dec.{eqb, ltb}
use borrow.Author.Tests.{eqb-true, lt-ltb, le-ltb, ne_eqb}
use Rattle.base.proofs.Cases.{case, both_ways, lt_ge, eq_ne}
use Rattle.base.proofs.Tests.{never}
use Rattle.roommates.specs.declared.Stage.TheVariants.{Proposing, Cutting}
use Rattle.roommates.specs.Lists.{Square}
use Rattle.roommates.specs.PhaseOne.{Work, waits, step}
use Rattle.roommates.specs.PhaseTwo.{cut_at, longer}
use Rattle.roommates.specs.Moves.{in_one, begun, Outcome, outcome, after_cut, move, moves, carried_out, worked}
use Rattle.roommates.specs.Runs.{Arrived, in_phase_one, none_in_one, lists_left, in_phase_two, none_in_two, all_short}
use Rattle.roommates.specs.Claims.{Made, none_made, step_made, cut_made, Unfit, not_waiting, not_longer, ended_before, RefusedBy, Refusals}
use Rattle.roommates.proofs.Sound.{promise_sound}
use Rattle.roommates.proofs.Stages.{each_stage, phases_differ, one_goes_on, two_goes_on}
use Rattle.roommates.proofs.Arrivals.{move_one, move_two, move_over}
use Rattle.roommates.proofs.WorkingsEnd.{worked_ends}

-- a joint that passes its test, or not
fits : (x n : ℕ) (b : Bool) → ((x < n) × (b ≡ true) × ((ltb x n && b) ≡ true)) ⊎ (((n ≤ x) ⊎ (b ≡ false)) × ((ltb x n && b) ≡ false))
fits x n b =
    case (lt_ge x n)
    (λ l. case (both_ways b) (λ e. inl (l, e, rw (lt-ltb x n l) e)) (λ e. inr (inr e, rw (lt-ltb x n l) e)))
    (λ l. inr (inl l, rw (le-ltb x n l) refl))

misfit : (x n : ℕ) (b : Bool) → (n ≤ x) ⊎ (b ≡ false) → (ltb x n && b) ≡ false
misfit x n b h = case h (λ l. rw (le-ltb x n l) refl) (λ e. case (lt_ge x n) (λ l. rw (lt-ltb x n l) e) (λ l. rw (le-ltb x n l) refl))

module _ (whole : Bool) (n : ℕ) where
  -- one choice: it is made, or may not be
  pub data Tried (w : Work) (x : ℕ) : Type 0 where
    fit_step : w.stage ≡ Proposing → x < n → waits n w x ≡ true → move whole n w x ≡ outcome 0 (in_one whole n (step n w x)) → Tried w x
    fit_cut : w.stage ≡ Cutting → x < n → longer n w.lists x ≡ true
        → move whole n w x ≡ outcome 0 (after_cut n w (cut_at n w.aside w.lists x)) → Tried w x
    unfit : (k : ℕ) → k ≢ 0 → Unfit n w x k → move whole n w x ≡ outcome k w → Tried w x

  pub tried : (w : Work) (x : ℕ) → Tried w x
  tried w x =
      case (each_stage w.stage)
      (λ h. case (fits x n (waits n w x))
      (λ f. fit_step h f.0 f.1 (move_one whole n w x h ∙ rw f.2 refl))
      (λ f. unfit 11 (λ z. omega arith) (not_waiting h f.0) (move_one whole n w x h ∙ rw f.1 refl)))
      (λ h. case h
      (λ h. case (fits x n (longer n w.lists x))
      (λ f. fit_cut h f.0 f.1 (move_two whole n w x h ∙ rw f.2 refl))
      (λ f. unfit 12 (λ z. omega arith) (not_longer h f.0) (move_two whole n w x h ∙ rw f.1 refl)))
      (λ h. unfit 13 (λ z. omega arith) (ended_before h) (move_over whole n w x h)))

  pub unfit_move : {w : Work} {x k : ℕ} → Unfit n w x k → move whole n w x ≡ outcome k w
  unfit_move {w} {x} (not_waiting h e) = move_one whole n w x h ∙ rw (misfit x n (waits n w x) e) refl
  unfit_move {w} {x} (not_longer h e) = move_two whole n w x h ∙ rw (misfit x n (longer n w.lists x) e) refl
  unfit_move {w} {x} (ended_before h) = move_over whole n w x h

  -- the first choice of a list
  pub moves_on : (w : Work) (x : ℕ) {v : Work} (cs : List ℕ) → move whole n w x ≡ outcome 0 v → moves whole n w (x ∷ cs) ≡ moves whole n v cs
  unfolding moves
  moves_on w x cs e = rw e refl

  moves_stop : (w : Work) (x : ℕ) {k : ℕ} (cs : List ℕ) → k ≢ 0 → move whole n w x ≡ outcome k w → moves whole n w (x ∷ cs) ≡ outcome k w
  unfolding moves
  moves_stop w x {k} cs d e = rw (e, ne_eqb k 0 d) refl

  -- choices that were made come before the others
  pub made_moves : {w v : Work} {cs : List ℕ} → Made whole n w cs v → (ds : List ℕ) → moves whole n w (cs ++ ds) ≡ moves whole n v ds
  made_moves none_made ds = refl
  made_moves (step_made {w} {v} {cs} x h l e m) ds =
      moves_on w x (cs ++ ds) (move_one whole n w x h ∙ rw (lt-ltb x n l, e) refl) ∙ made_moves m ds
  made_moves (cut_made {w} {v} {cs} x h l e m) ds =
      moves_on w x (cs ++ ds) (move_two whole n w x h ∙ rw (lt-ltb x n l, e) refl) ∙ made_moves m ds

  -- How a list of choices comes out: all made, or a first one that may not be.
  pub data Came (w : Work) (cs : List ℕ) (o : Outcome) : Type 0 where
    all_made : o.refusal ≡ 0 → Made whole n w cs o.work_is → Came w cs o
    stopped : (earlier : List ℕ) (x : ℕ) (later : List ℕ) → cs ≡ earlier ++ (x ∷ later) → Made whole n w earlier o.work_is
        → o.refusal ≢ 0 → Unfit n o.work_is x o.refusal → Came w cs o

  one_more : {w v : Work} (x : ℕ) {cs : List ℕ} {o : Outcome} → ((ds : List ℕ) (u : Work) → Made whole n v ds u → Made whole n w (x ∷ ds) u)
      → Came v cs o → Came w (x ∷ cs) o
  one_more x more (all_made z m) = all_made z (more _ _ m)
  one_more x more (stopped earlier y later e m d u) = stopped (x ∷ earlier) y later (ap (λ l. x ∷ l) e) (more _ _ m) d u

  pub came : (cs : List ℕ) (w : Work) → Came w cs (moves whole n w cs)
  unfolding moves
  came [] w = all_made refl none_made
  came (x ∷ cs) w = by_choice (tried w x) (λ v. came cs v)
    where
      by_choice : Tried w x → ((v : Work) → Came v cs (moves whole n v cs)) → Came w (x ∷ cs) (moves whole n w (x ∷ cs))
      by_choice (fit_step h l e m) rest = rw (moves_on w x cs m) (one_more x (λ ds u made. step_made x h l e made) (rest _))
      by_choice (fit_cut h l e m) rest = rw (moves_on w x cs m) (one_more x (λ ds u made. cut_made x h l e made) (rest _))
      by_choice (unfit k d u m) rest = rw (moves_stop w x cs d m) (stopped [] x cs refl none_made d u)

  -- what the rule does after the choices is never refused
  pub carried_refusal : (o : Outcome) → (carried_out whole n o).refusal ≡ o.refusal
  carried_refusal o = case (both_ways (eqb o.refusal 0)) (λ e. rw e (sym (eqb-true _ _ e))) (λ e. rw e refl)

  -- a refused choice leaves the working where it stood
  pub carried_stopped : (o : Outcome) → o.refusal ≢ 0 → carried_out whole n o ≡ o
  carried_stopped o d = rw (ne_eqb o.refusal 0 d) refl

  module _ (t : Square) (cs : List ℕ) where
    pub worked_refusal : (worked whole n t cs).refusal ≡ (moves whole n (begun whole n t) cs).refusal
    unfolding worked
    worked_refusal = carried_refusal (moves whole n (begun whole n t) cs)

    worked_stopped : (worked whole n t cs).refusal ≢ 0 → worked whole n t cs ≡ moves whole n (begun whole n t) cs
    unfolding worked
    worked_stopped d = carried_stopped (moves whole n (begun whole n t) cs) (λ z. d (worked_refusal ∙ z))

    came_refused : {k : ℕ} → k ≢ 0 → (o : Outcome) → o.refusal ≡ k → Came (begun whole n t) cs o → RefusedBy whole n t cs k
    came_refused d o e (all_made z m) = absurd (d (sym e ∙ z))
    came_refused d o e (stopped earlier x later split m nz u) = record {
      earlier = earlier;
      choice = x;
      later = later;
      split = split;
      there = o.work_is;
      made = m;
      unfit = rw e at u;
    }

  -- where a choice may not be made, whatever follows it
  refused_at : {w v : Work} {cs : List ℕ} {x k : ℕ} → Made whole n w cs v → Unfit n v x k → k ≢ 0 → (ds : List ℕ)
      → (moves whole n w (cs ++ (x ∷ ds))).refusal ≡ k
  refused_at {v = v} {x = x} m u d ds = ap (λ (o : Outcome). o.refusal) (made_moves m (x ∷ ds) ∙ moves_stop v x ds d (unfit_move u))

  pub unfit_stage : {w : Work} {x k : ℕ} → Unfit n w x k → (w.stage ≡ Proposing → k ≡ 11) × (w.stage ≡ Cutting → k ≡ 12)
  unfit_stage (not_waiting h e) = (λ g. refl, λ g. absurd (phases_differ h g))
  unfit_stage (not_longer h e) = (λ g. absurd (phases_differ g h), λ g. refl)
  unfit_stage (ended_before h) = (λ g. absurd (one_goes_on g h), λ g. absurd (two_goes_on g h))

  came_stage : {w : Work} {cs : List ℕ} (o : Outcome) → o.refusal ≢ 0 → Came w cs o
      → (o.work_is.stage ≡ Proposing → o.refusal ≡ 11) × (o.work_is.stage ≡ Cutting → o.refusal ≡ 12)
  came_stage o d (all_made z m) = absurd (d z)
  came_stage o d (stopped earlier x later e m nz u) = unfit_stage u

-- the number of a refused choice is 11, 12 or 13
pub unfit_number : {n : ℕ} {w : Work} {x k : ℕ} → Unfit n w x k → (11 ≤ k) × (k ≤ 13)
unfit_number (not_waiting h e) = (omega arith, omega arith)
unfit_number (not_longer h e) = (omega arith, omega arith)
unfit_number (ended_before h) = (omega arith, omega arith)

-- .. and shorten's working, which never stands in phase two, has no 12
pub shorten_unfit : {n : ℕ} {w : Work} {x k : ℕ} → Unfit n w x k → w.stage ≢ Cutting → k ≢ 12
shorten_unfit (not_waiting h e) d = λ z. omega arith
shorten_unfit (not_longer h e) d = λ z. d h
shorten_unfit (ended_before h) d = λ z. omega arith

pub uncutting : {n : ℕ} {t : Square} {w : Work} → Arrived false n t w → w.stage ≢ Cutting
uncutting (in_phase_one h r p l e) g = phases_differ h g
uncutting (none_in_one v h e bad) g = two_goes_on g (inl (ap (λ u. u.stage) h))
uncutting (lists_left wh v h e ok) g = two_goes_on g (inr (inr (ap (λ u. u.stage) h)))
uncutting (in_phase_two wh h b x l e) g = never _ wh refl
uncutting (none_in_two wh h b x l e f) g = never _ wh refl
uncutting (all_short wh h b short) g = never _ wh refl

pub refusals : Refusals
refusals whole n t cs = record {
  refused_by = λ k d. (
    λ e. came_refused whole n t cs d _ (sym (worked_refusal whole n t cs) ∙ e) (came whole n cs (begun whole n t)),
    λ r. worked_refusal whole n t cs
        ∙ ap (λ l. (moves whole n (begun whole n t) l).refusal) r.split
        ∙ refused_at whole n r.made r.unfit d r.later,
  );
  stops_at = λ promise.
      case (eq_ne (worked whole n t cs).refusal 0)
      (λ z.
      let over = worked_ends whole n (promise_sound promise) cs z in
      (λ g. absurd (one_goes_on g over), λ g. absurd (two_goes_on g over)))
      (λ d. came_stage whole n (worked whole n t cs) d
      (subst (Came whole n (begun whole n t) cs) (sym (worked_stopped whole n t cs d)) (came whole n cs (begun whole n t))));
  beginning = λ ds z. worked_refusal whole n t cs ∙ begins ds (came whole n cs (begun whole n t)) (sym (worked_refusal whole n t (cs ++ ds)) ∙ z);
}
  where
    begins : (ds : List ℕ) → Came whole n (begun whole n t) cs (moves whole n (begun whole n t) cs)
        → (moves whole n (begun whole n t) (cs ++ ds)).refusal ≡ 0 → (moves whole n (begun whole n t) cs).refusal ≡ 0
    begins ds (all_made z m) h = z
    begins ds (stopped earlier x later e m nz u) h =
        let split : cs ++ ds ≡ earlier ++ (x ∷ (later ++ ds)) = ap (λ l. l ++ ds) e ∙ append_assoc earlier (x ∷ later) ds in
        absurd (nz (sym (refused_at whole n m u nz (later ++ ds)) ∙ (ap (λ l. (moves whole n (begun whole n t) l).refusal) (sym split) ∙ h)))
