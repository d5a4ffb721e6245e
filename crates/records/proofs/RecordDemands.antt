-- Demands 2 and 3 for records: the working is that of the steps standing, so it arrives by steps and cuts as every working does.
use mathlib.Core.Path.{◌≡◌, refl, sym, ◌∙◌, ap, subst}
use mathlib.Core.Bool.{Bool, true, false, cond}
use mathlib.Core.List.{List, [], ◌∷◌, ◌++◌}
use Prim.Native.Nat.{ℕ, ◌%◌}
use native.Mathlib.Omega.{arith}
use lib.Dec.{eqb}
use lib.ListN.{length}
use borrow.Author.Tests.{eq-eqb}
use Rattle.base.proofs.Cases.{case, both_ways}
use Rattle.sheet.specs.Format.{joints}
use Rattle.sheet.specs.Square.{SquarePromise, square_of}
use Rattle.sheet.proofs.PromiseKept.{accepted_square}
use Rattle.roommates.specs.Lists.{Square}
use Rattle.roommates.specs.PhaseOne.{Work}
use Rattle.roommates.specs.Moves.{begun, Outcome, outcome, move, moves, carried_out, worked}
use Rattle.roommates.specs.Runs.{Arrived}
use Rattle.roommates.proofs.Sound.{Sound, promise_sound}
use Rattle.roommates.proofs.Stages.{Over}
use Rattle.roommates.proofs.Arrivals.{by_test, moves_arrive, begun_arrives, carried_arrives}
use Rattle.roommates.proofs.WorkingsEnd.{carried_ends}
use Rattle.roommates.proofs.ChoicesRefused.{carried_refusal}
use Rattle.roommates.proofs.Demands.{all_settled}
use Rattle.records.specs.declared.Record.{Record}
use Rattle.records.specs.Records.{records_of, Marked, acts, stepped, follows, started, is_odd, worked_by, settles_by, shortens_by}
use Rattle.records.specs.Standing.{standing, step_bytes}
use Rattle.records.specs.Claims.{Replayed, RecordsReplayed, BytesReplayed, StepsReplayed, RecordDemands}
use Rattle.records.proofs.Following.{followed_all, Came, all_followed, stopped, unfit_some, came}
use Rattle.records.proofs.Replay.{followed_replayed}

module _ (whole : Bool) (n : ℕ) (t : Square) where
  abbrev after : List ℕ → Outcome
  after bytes = follows whole n (started whole n t) (records_of bytes)

  -- an even number of bytes: their records, carried out
  pub by_records : (bytes : List ℕ) → is_odd (length bytes) ≡ false
      → worked_by whole n t bytes ≡ carried_out whole n (follows whole n (started whole n t) (records_of bytes))
  unfolding worked_by
  by_records bytes e = rw e refl

  pub by_none : (bytes : List ℕ) → is_odd (length bytes) ≡ true → worked_by whole n t bytes ≡ outcome 14 (begun whole n t)
  unfolding worked_by
  by_none bytes e = rw e refl

  -- nothing is refused: the number of bytes is even, and no record is
  pub none_refused : (bytes : List ℕ) → (worked_by whole n t bytes).refusal ≡ 0
      → (is_odd (length bytes) ≡ false) × ((follows whole n (started whole n t) (records_of bytes)).refusal ≡ 0)
  none_refused bytes z =
      case (both_ways (is_odd (length bytes)))
      (λ e. let k : 14 ≡ 0 = sym (ap (λ (o : Outcome). o.refusal) (by_none bytes e)) ∙ z in absurd (omega arith))
      (λ e. (e, sym (ap (λ (o : Outcome). o.refusal) (by_records bytes e) ∙ carried_refusal whole n _) ∙ z))

  pub arrived_by : (cs : List ℕ) {w : Work} → moves whole n (begun whole n t) cs ≡ outcome 0 w → Arrived whole n t w
  arrived_by cs e = subst (λ (o : Outcome). Arrived whole n t o.work_is) e (moves_arrive cs begun_arrives)

  follows_arrive : (rs : List Record) → Arrived whole n t (follows whole n (started whole n t) rs).work_is
  follows_arrive rs = by_end (came whole n rs (started whole n t))
    where
      at : {o : Outcome} {k : ℕ} {w : Work} → o ≡ outcome k w → Arrived whole n t w → Arrived whole n t o.work_is
      at h a = subst (λ (o : Outcome). Arrived whole n t o.work_is) (sym h) a

      by_end : {o : Outcome} → Came whole n (started whole n t) rs o → Arrived whole n t o.work_is
      by_end (all_followed u f h) = at h (arrived_by (standing rs) (followed_replayed whole n t f))
      by_end (stopped earlier met later u k split f bad h) = at h (arrived_by (standing earlier) (followed_replayed whole n t f))

  pub worked_by_arrives : (bytes : List ℕ) → Arrived whole n t (worked_by whole n t bytes).work_is
  unfolding worked_by
  worked_by_arrives bytes =
      by_test (λ (o : Outcome). Arrived whole n t o.work_is) (is_odd (length bytes))
      (λ e. begun_arrives)
      (λ e. carried_arrives (after bytes) (follows_arrive (records_of bytes)))

  pub worked_by_ends : Sound n t → (bytes : List ℕ) → (worked_by whole n t bytes).refusal ≡ 0 → Over (worked_by whole n t bytes).work_is.stage
  unfolding worked_by
  worked_by_ends s bytes =
      by_test (λ (o : Outcome). o.refusal ≡ 0 → Over o.work_is.stage) (is_odd (length bytes))
      (λ e z. absurd (omega arith))
      (λ e. carried_ends whole n s (after bytes) (follows_arrive (records_of bytes)))

-- THE STEPS STANDING
append_none : (rs : List Record) → rs ≡ rs ++ []
append_none [] = refl
append_none (r ∷ rs) = ap (λ l. r ∷ l) (append_none rs)

pub records_replayed : RecordsReplayed
records_replayed whole n t rs = by_end (came whole n rs (started whole n t)) refl
  where
    start : Marked
    start = started whole n t

    left : {k : ℕ} {w : Work} {o : Outcome} → o ≡ outcome k w → follows whole n start rs ≡ o
        → {after : Outcome} → after ≡ outcome 0 w → after ≡ outcome 0 (follows whole n start rs).work_is
    left h e i = i ∙ ap (λ (o : Outcome). outcome 0 o.work_is) (sym (e ∙ h))

    by_end : {o : Outcome} → Came whole n start rs o → follows whole n start rs ≡ o → Replayed whole n t rs
    by_end (all_followed u f h) e = record {
      followed = rs;
      later = [];
      split = append_none rs;
      all_followed = λ z. refl;
      within = ap (λ (o : Outcome). o.refusal) (followed_all whole n f);
      replayed = left h e (followed_replayed whole n t f);
    }
    by_end (stopped earlier met later u k split f bad h) e = record {
      followed = earlier;
      later = met ∷ later;
      split = split;
      all_followed = λ z. absurd (unfit_some whole n bad (sym (ap (λ (o : Outcome). o.refusal) (e ∙ h)) ∙ z));
      within = ap (λ (o : Outcome). o.refusal) (followed_all whole n f);
      replayed = left h e (followed_replayed whole n t f);
    }

unrefused_replayed : (whole : Bool) (n : ℕ) (t : Square) (rs : List Record) → (follows whole n (started whole n t) rs).refusal ≡ 0
    → follows whole n (started whole n t) rs ≡ moves whole n (begun whole n t) (standing rs)
unrefused_replayed whole n t rs z =
    let r = records_replayed whole n t rs in
    let all : rs ≡ r.followed = r.split ∙ ap (λ l. r.followed ++ l) (r.all_followed z) ∙ sym (append_none r.followed) in
    ap (λ k. outcome k (follows whole n (started whole n t) rs).work_is) z
    ∙ sym (ap (λ l. moves whole n (begun whole n t) (standing l)) all ∙ r.replayed)

pub bytes_replayed : BytesReplayed
unfolding worked
bytes_replayed whole n t bytes z =
    let r = none_refused whole n t bytes z in
    by_records whole n t bytes r.0 ∙ ap (carried_out whole n) (unrefused_replayed whole n t (records_of bytes) r.1)

steps_even : (cs : List ℕ) → length (step_bytes cs) % 2 ≡ 0
unfolding step_bytes
steps_even [] = refl
steps_even (x ∷ cs) = let e = steps_even cs in omega arith

steps_follow : (whole : Bool) (n : ℕ) (cs : List ℕ) (s : Marked) → follows whole n s (records_of (step_bytes cs)) ≡ moves whole n s.working cs
unfolding step_bytes records_of follows acts stepped moves
steps_follow whole n [] s = refl
steps_follow whole n (x ∷ cs) s =
    let o = move whole n s.working x in
    ap (λ (rest : Outcome). cond (eqb o.refusal 0) rest o) (steps_follow whole n cs record { working = o.work_is; marks = s.marks })

pub steps_replayed : StepsReplayed
unfolding worked
steps_replayed whole n t cs =
    by_records whole n t (step_bytes cs) (rw (eq-eqb (length (step_bytes cs) % 2) 0 (steps_even cs)) refl)
    ∙ ap (carried_out whole n) (steps_follow whole n cs (started whole n t))

-- THE DEMANDS
pub record_demands : RecordDemands
unfolding worked_by records_of follows
record_demands s h =
    let promise : SquarePromise (joints s) (square_of s) = accepted_square s h in
    let sound = promise_sound promise in
    all_settled promise (settles_by (joints s) (square_of s)) (shortens_by (joints s) (square_of s))
    (worked_by_arrives true (joints s) (square_of s)) (worked_by_arrives false (joints s) (square_of s))
    (worked_by_ends true (joints s) (square_of s) sound) (worked_by_ends false (joints s) (square_of s) sound) (refl, refl)
