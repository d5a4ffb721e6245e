-- Which records are refused, and why: for every list of bytes, settle's and shorten's.
use mathlib.Core.Path.{◌≡◌, refl, sym, ◌∙◌, ap, subst}
use mathlib.Core.Bool.{Bool, true, false, ◌||◌}
use mathlib.Core.Logic.{◌⊎◌, inl, inr, ◌≢◌}
use mathlib.Core.List.{List, [], ◌∷◌, ◌++◌, append_assoc}
use Prim.Native.Nat.{ℕ, zero, suc, ◌%◌, ◌≤◌}
use native.Mathlib.Omega.{arith}
use lib.ListN.{length}
use borrow.Author.Tests.{eq-eqb, eqb-true, not-false}
use Rattle.base.proofs.Cases.{case, both_ways}
use Rattle.base.proofs.Tests.{never}
use Rattle.roommates.specs.declared.Stage.TheVariants.{Proposing, Cutting}
use Rattle.roommates.specs.Lists.{Square}
use Rattle.roommates.specs.PhaseOne.{Work}
use Rattle.roommates.specs.Moves.{Outcome, outcome}
use Rattle.roommates.proofs.Sound.{Sound, promise_sound}
use Rattle.roommates.proofs.Stages.{one_goes_on, two_goes_on}
use Rattle.roommates.proofs.ChoicesRefused.{carried_refusal, carried_stopped, unfit_stage, shorten_unfit, uncutting}
use Rattle.records.specs.declared.Record.{Record}
use Rattle.records.specs.Records.{record_of, records_of, Marked, follows, started, is_odd, worked_by}
use Rattle.records.specs.Standing.{is_set_by, standing}
use Rattle.records.specs.Claims.{UnfitRecord, unfit_step, no_kind, no_mark, not_set, RecordRefused, StoppedBy, BytesRefused, odd_bytes, by_record, RecordRefusals}
use Rattle.records.proofs.Acting.{is_set_in, unfit_record_number, unfit_acts}
use Rattle.records.proofs.Following.{Followed, followed_all, followed_follows, follows_stop, Came, all_followed, stopped, unfit_some, came, set_by}
use Rattle.records.proofs.Replay.{followed_replayed}
use Rattle.records.proofs.RecordDemands.{by_records, by_none, none_refused, arrived_by, worked_by_ends}

-- a reason for marks that are the same
same_marks : {n : ℕ} {w : Work} {f g : ℕ → Bool} {r : Record} {k : ℕ} → ((m : ℕ) → f m ≡ g m) → UnfitRecord n w f r k → UnfitRecord n w g r k
same_marks e (unfit_step i u) = unfit_step i u
same_marks e (no_kind l) = no_kind l
same_marks e (no_mark i l) = no_mark i l
same_marks {r = r} e (not_set i h) = not_set i (sym (e r.number) ∙ h)

-- the bytes of records come before others
two_fewer : (k : ℕ) → is_odd (suc (suc k)) ≡ false → is_odd k ≡ false
two_fewer k h =
    let e : suc (suc k) % 2 ≡ 0 = eqb-true _ _ (not-false _ h) in
    let i : k % 2 ≡ 0 = omega arith in
    rw (eq-eqb (k % 2) 0 i) refl

records_append : (bytes later : List ℕ) → is_odd (length bytes) ≡ false → records_of (bytes ++ later) ≡ records_of bytes ++ records_of later
unfolding records_of
records_append [] later h = refl
records_append (k ∷ []) later h = absurd (never _ refl h)
records_append (k ∷ (x ∷ bytes)) later h = ap (λ l. record_of k x ∷ l) (records_append bytes later (two_fewer (length bytes) h))

module _ (whole : Bool) (n : ℕ) (t : Square) where
  abbrev start : Marked
  start = started whole n t

  -- the marks set are those that a record sets
  marks_as : {rs : List Record} {u : Marked} → Followed whole n start rs u → (m : ℕ) → is_set_in u m ≡ is_set_by rs m
  marks_as {rs} f m = set_by whole n f m ∙ none (is_set_by rs m)
    where
      none : (b : Bool) → (b || false) ≡ b
      none true = refl
      none false = refl

  came_refused : (rs : List Record) {k : ℕ} → k ≢ 0 → {o : Outcome} → Came whole n start rs o → o.refusal ≡ k → RecordRefused whole n t rs k
  came_refused rs d (all_followed u f h) e = absurd (d (sym e ∙ ap (λ (o : Outcome). o.refusal) h))
  came_refused rs {k} d (stopped earlier met later u i split f bad h) e =
      let same : i ≡ k = sym (ap (λ (o : Outcome). o.refusal) h) ∙ e in record {
        earlier = earlier;
        met = met;
        later = later;
        split = split;
        within = ap (λ (o : Outcome). o.refusal) (followed_all whole n f);
        there = u.working;
        stands = followed_replayed whole n t f;
        unfit = subst (UnfitRecord n u.working (is_set_by earlier) met) same (same_marks (marks_as f) bad);
      }

  -- where a record may not come, whatever follows it
  refused_at : (rs : List Record) {k : ℕ} (r : RecordRefused whole n t rs k) → follows whole n start rs ≡ outcome k r.there
  refused_at rs {k} r = ap (follows whole n start) r.split ∙ by_end (came whole n r.earlier start) r.within
    where
      by_end : {o : Outcome} → Came whole n start r.earlier o → o.refusal ≡ 0 → follows whole n start (r.earlier ++ (r.met ∷ r.later)) ≡ outcome k r.there
      by_end (all_followed u f h) z =
          let same : r.there ≡ u.working = ap (λ (o : Outcome). o.work_is) (sym r.stands ∙ followed_replayed whole n t f) in
          let bad : UnfitRecord n u.working (is_set_in u) r.met k
          = same_marks (λ m. sym (marks_as f m)) (subst (λ (w : Work). UnfitRecord n w (is_set_by r.earlier) r.met k) same r.unfit) in
          followed_follows whole n f (r.met ∷ r.later)
          ∙ follows_stop whole n u r.met r.later (unfit_some whole n bad) (unfit_acts whole n bad)
          ∙ ap (outcome k) (sym same)
      by_end (stopped earlier met later u i split f bad h) z = absurd (unfit_some whole n bad (sym (ap (λ (o : Outcome). o.refusal) h) ∙ z))

  module _ (bytes : List ℕ) where
    abbrev records : List Record
    records = records_of bytes

    refusal_is : is_odd (length bytes) ≡ false → (worked_by whole n t bytes).refusal ≡ (follows whole n start records).refusal
    refusal_is e = ap (λ (o : Outcome). o.refusal) (by_records whole n t bytes e) ∙ carried_refusal whole n (follows whole n start records)

    left_there : {k : ℕ} → is_odd (length bytes) ≡ false → (r : RecordRefused whole n t records k) → worked_by whole n t bytes ≡ outcome k r.there
    left_there {k} e r =
        let at = refused_at records r in
        let some : (follows whole n start records).refusal ≢ 0 = λ z. unfit_some whole n r.unfit (sym (ap (λ (o : Outcome). o.refusal) at) ∙ z) in
        by_records whole n t bytes e ∙ carried_stopped whole n _ some ∙ at

    refused_by : (k : ℕ) → k ≢ 0 → (worked_by whole n t bytes).refusal ≡ k → BytesRefused whole n t bytes k
    refused_by k d h =
        case (both_ways (is_odd (length bytes)))
        (λ e. subst (BytesRefused whole n t bytes) (sym (ap (λ (o : Outcome). o.refusal) (by_none whole n t bytes e)) ∙ h) (odd_bytes e))
        (λ e. by_record e (came_refused records d (came whole n records start) (sym (refusal_is e) ∙ h)))

    refused_so : (k : ℕ) → BytesRefused whole n t bytes k → (worked_by whole n t bytes).refusal ≡ k
    refused_so k (odd_bytes e) = ap (λ (o : Outcome). o.refusal) (by_none whole n t bytes e)
    refused_so k (by_record e r) = ap (λ (o : Outcome). o.refusal) (left_there e r)

    beginning : (later : List ℕ) → is_odd (length bytes) ≡ false → (worked_by whole n t (bytes ++ later)).refusal ≡ 0 → (worked_by whole n t bytes).refusal ≡ 0
    beginning later e z =
        refusal_is e
        ∙ by_end (came whole n records start)
        (ap (λ (rs : List Record). (follows whole n start rs).refusal) (sym (records_append bytes later e)) ∙ (none_refused whole n t (bytes ++ later) z).1)
      where
        by_end : {o : Outcome} → Came whole n start records o → (follows whole n start (records ++ records_of later)).refusal ≡ 0 → o.refusal ≡ 0
        by_end (all_followed u f h) y = ap (λ (o : Outcome). o.refusal) h
        by_end (stopped earlier met rest u k split f bad h) y =
            let longer : records ++ records_of later ≡ earlier ++ (met ∷ (rest ++ records_of later))
            = ap (λ l. l ++ records_of later) split ∙ append_assoc earlier (met ∷ rest) (records_of later) in
            let stops : follows whole n start (records ++ records_of later) ≡ outcome k u.working
            = ap (follows whole n start) longer ∙ followed_follows whole n f (met ∷ (rest ++ records_of later))
            ∙ follows_stop whole n u met (rest ++ records_of later) (unfit_some whole n bad) (unfit_acts whole n bad) in
            absurd (unfit_some whole n bad (sym (ap (λ (o : Outcome). o.refusal) stops) ∙ y))

    -- nothing is refused, or the number is one of 11 to 15
    pub refusal_number : ((worked_by whole n t bytes).refusal ≡ 0) ⊎ ((11 ≤ (worked_by whole n t bytes).refusal) × ((worked_by whole n t bytes).refusal ≤ 15))
    refusal_number = by_number (worked_by whole n t bytes).refusal refl
      where
        numbered : {k : ℕ} → BytesRefused whole n t bytes k → (11 ≤ k) × (k ≤ 15)
        numbered (odd_bytes e) = (omega arith, omega arith)
        numbered (by_record e r) = unfit_record_number r.unfit

        by_number : (k : ℕ) → (worked_by whole n t bytes).refusal ≡ k → (k ≡ 0) ⊎ ((11 ≤ k) × (k ≤ 15))
        by_number zero e = inl refl
        by_number (suc k) e = inr (numbered (refused_by (suc k) (λ z. omega arith) e))

-- where a working stops short of its end: in that phase, by that number
abbrev Stops : Work → ℕ → Type 0
Stops w k = (w.stage ≡ Proposing → StoppedBy 11 k) × (w.stage ≡ Cutting → StoppedBy 12 k)

module _ (whole : Bool) (n : ℕ) (t : Square) (bytes : List ℕ) where
  stopped_one : {w : Work} {set : ℕ → Bool} {r : Record} {k : ℕ} → UnfitRecord n w set r k → Stops w k
  stopped_one (unfit_step i u) = let at = unfit_stage whole n u in (λ g. inl (at.0 g), λ g. inl (at.1 g))
  stopped_one (no_kind l) = (λ g. inr (inl refl), λ g. inr (inl refl))
  stopped_one (no_mark i l) = (λ g. inr (inr refl), λ g. inr (inr refl))
  stopped_one (not_set i h) = (λ g. inr (inr refl), λ g. inr (inr refl))

  stops_at : Sound n t → Stops (worked_by whole n t bytes).work_is (worked_by whole n t bytes).refusal
  stops_at s = by_number (worked_by whole n t bytes).refusal refl
    where
      by_bytes : {k : ℕ} → BytesRefused whole n t bytes k → Stops (worked_by whole n t bytes).work_is k
      by_bytes (odd_bytes e) = (λ g. inr (inl refl), λ g. inr (inl refl))
      by_bytes (by_record e r) =
          let there = ap (λ (o : Outcome). o.work_is.stage) (left_there whole n t bytes e r) in
          let at = stopped_one r.unfit in
          (λ g. at.0 (sym there ∙ g), λ g. at.1 (sym there ∙ g))

      by_number : (k : ℕ) → (worked_by whole n t bytes).refusal ≡ k → Stops (worked_by whole n t bytes).work_is k
      by_number zero z =
          let over = worked_by_ends whole n t s bytes z in
          (λ g. absurd (one_goes_on g over), λ g. absurd (two_goes_on g over))
      by_number (suc k) e = by_bytes (refused_by whole n t bytes (suc k) (λ z. omega arith) e)

-- shorten's working never stands in phase two, so 12 is no refusal of its records
pub not_twelve : (n : ℕ) (t : Square) (bytes : List ℕ) → (worked_by false n t bytes).refusal ≢ 12
not_twelve n t bytes h = none (refused_by false n t bytes 12 (λ z. omega arith) h) refl
  where
    no_step : {w : Work} {set : ℕ → Bool} {r : Record} {k : ℕ} → UnfitRecord n w set r k → w.stage ≢ Cutting → k ≢ 12
    no_step (unfit_step i u) d = shorten_unfit u d
    no_step (no_kind l) d = λ z. omega arith
    no_step (no_mark i l) d = λ z. omega arith
    no_step (not_set i e) d = λ z. omega arith

    none : {k : ℕ} → BytesRefused false n t bytes k → k ≢ 12
    none (odd_bytes e) = λ z. omega arith
    none (by_record e r) = no_step r.unfit (uncutting (arrived_by false n t (standing r.earlier) r.stands))

pub record_refusals : RecordRefusals
record_refusals whole n t bytes = record {
  refused_by = λ k d. (refused_by whole n t bytes k d, refused_so whole n t bytes k);
  left_there = left_there whole n t bytes;
  left_begun = by_none whole n t bytes;
  stops_at = λ promise.
      stops_at whole n t bytes (promise_sound promise);
  beginning = beginning whole n t bytes;
}
