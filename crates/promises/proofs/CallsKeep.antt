-- The calls keep what specs/Claims.antt states.
use mathlib.Core.Path.{◌≡◌, refl, sym, ap, ◌∙◌}
use mathlib.Core.Bool.{Bool, true, false}
use mathlib.Core.List.{List, [], ◌∷◌}
use mathlib.Core.Logic.{◌≢◌, ◌↔◌}
use Prim.Native.Nat.{ℕ, zero, suc, ◌*◌, ◌≤◌}
use native.Mathlib.Omega.{arith}
use Rattle.base.proofs.Faults.{fault_behind, fault_passes, last_fault}
use Rattle.base.specs.Faults.{first_fault}
use Rattle.refusals.specs.Numbers.{fault_of}
use Rattle.sheet.proofs.Numbers.{sheet_not}
use Rattle.square.specs.Mutual.{listed_pairs}
use Rattle.sheet.specs.Format.{joints, entries_of}
use Rattle.sheet.specs.Refusals.{sheet_fault}
use Rattle.sheet.specs.Square.{square_of}
use Rattle.sheet.proofs.PromiseKept.{accepted_square}
use Rattle.roommates.specs.Moves.{Outcome}
use Rattle.roommates.proofs.EntriesListed.{all_listed, pairs_half}
use Rattle.records.specs.Records.{worked_by}
use Rattle.records.specs.Claims.{BytesRefused}
use Rattle.records.proofs.RecordDemands.{worked_by_arrives, record_demands}
use Rattle.records.proofs.RecordRefusals.{record_refusals}
use Rattle.roommates.specs.Runs.{Arrived}
use Rattle.roommates.proofs.CountsAsSaid.{counts_as_said}
use Rattle.calls.specs.declared.Counts.{Counts}
use Rattle.calls.specs.Calls.{end_counts, counts_as, counts_of}
use Rattle.promises.specs.Claims.{CountsAre, CallsKeep}
use Rattle.calls.proofs.LawsCalls.{work_few}
use Rattle.promises.proofs.SettleKeeps.{counts_first, settle_unwritten, settle_first, settle_refuses, settle_none, settle_paired, settle_same, settle_beginning}
use Rattle.promises.proofs.ShortenKeeps.{shorten_unwritten, shorten_none, shorten_first, shorten_refuses, shorten_lists}
use Rattle.promises.proofs.ShortenKeeps.{shorten_not_12, shorten_beginning, shorten_same, same_bytes, same_none}

-- counts are those of the working, or 0 and 0
proposals_or : (f : ℕ) (e : Outcome) (most : ℕ) → (f ≡ 0 → e.work_is.proposals ≤ most) → (counts_as f e).proposals ≤ most
proposals_or zero e most h = h refl
proposals_or (suc f) e most h = omega arith

cuts_or : (f : ℕ) (e : Outcome) (most : ℕ) → (f ≡ 0 → e.work_is.cuts ≤ most) → (counts_as f e).cuts ≤ most
cuts_or zero e most h = h refl
cuts_or (suc f) e most h = omega arith

small_or : (f : ℕ) (e : Outcome) → (f ≡ 0 → (e.work_is.proposals ≤ 16384) × (e.work_is.cuts ≤ 16384))
    → ((counts_as f e).proposals ≤ 16384) × ((counts_as f e).cuts ≤ 16384)
small_or zero e h = h refl
small_or (suc f) e h = (omega arith, omega arith)

module _ (s : List ℕ) where
  work_proposals : (whole : Bool) (cs : List ℕ) → sheet_fault s ≡ 0 → (worked_by whole (joints s) (square_of s) cs).work_is.proposals ≤ joints s * joints s
  work_proposals true cs f = ((record_demands s f).few_proposals cs).0
  work_proposals false cs f = ((record_demands s f).few_proposals cs).1

  work_cuts : (whole : Bool) (cs : List ℕ) → sheet_fault s ≡ 0 → (worked_by whole (joints s) (square_of s) cs).work_is.cuts ≤ listed_pairs (entries_of s)
  work_cuts true cs f =
      let all = all_listed s f in
      omega (arith, ((record_demands s f).few_cuts cs).0)
  work_cuts false cs f = omega (arith, ((record_demands s f).few_cuts cs).1)

  work_no_cuts : (cs : List ℕ) → sheet_fault s ≡ 0 → (worked_by false (joints s) (square_of s) cs).work_is.cuts ≤ 0
  work_no_cuts cs f = omega (arith, ((record_demands s f).few_cuts cs).1)

  work_no_choices : (whole : Bool) → sheet_fault s ≡ 0 → (worked_by whole (joints s) (square_of s) []).refusal ≡ 0
  work_no_choices true f = (record_demands s f).no_choices.0
  work_no_choices false f = (record_demands s f).no_choices.1

  no_cuts : (cs : List ℕ) → (counts_of false s cs).cuts ≡ 0
  no_cuts cs =
      rw (last_fault (sheet_fault s))
      (let c = cuts_or (sheet_fault s) (worked_by false (joints s) (square_of s) cs) 0 (work_no_cuts cs) in omega arith)

  counts_are : (whole : Bool) (cs : List ℕ) → sheet_fault s ≡ 0 → CountsAre whole s cs
  counts_are whole cs f =
      let w = worked_by whole (joints s) (square_of s) cs in
      let a : Arrived whole (joints s) (square_of s) w.work_is = worked_by_arrives whole (joints s) (square_of s) cs in
      let e : counts_of whole s cs ≡ end_counts w = rw (last_fault (sheet_fault s), f) refl in
      let said = counts_as_said whole (joints s) (square_of s) w.work_is a in record {
        arrived = a;
        proposals_are = ap (λ (c : Counts). c.proposals) e ∙ said.0;
        cuts_are = ap (λ (c : Counts). c.cuts) e ∙ said.1;
      }

  choice_refused : (whole : Bool) (cs : List ℕ) (k : ℕ) → 11 ≤ k → k ≤ 15
      → (fault_of (counts_of whole s cs).refusal ≡ k) ↔ ((sheet_fault s ≡ 0) × BytesRefused whole (joints s) (square_of s) cs k)
  choice_refused whole cs k big low =
      let o = worked_by whole (joints s) (square_of s) cs in
      let by = (record_refusals whole (joints s) (square_of s) cs).refused_by k (λ z. omega arith) in
      let number = counts_first whole s cs in (
        λ h.
            let e : first_fault (sheet_fault s ∷ (o.refusal ∷ [])) ≡ k = sym number ∙ h in
            let r = own (sheet_fault s) o.refusal k (sheet_not s k (omega arith) (omega arith)) e in
            (r.0, by.0 r.1),
        λ h. number ∙ fault_passes _ _ h.0 ∙ last_fault _ ∙ by.1 h.1,
      )
    where
      own : (f c k : ℕ) → f ≢ k → first_fault (f ∷ (c ∷ [])) ≡ k → (f ≡ 0) × (c ≡ k)
      own f c k other e = let r = (fault_behind f (c ∷ []) k other).0 e in (r.0, sym (last_fault c) ∙ r.1)

  pub calls_keep : CallsKeep s
  calls_keep = record {
    settle_paired = settle_paired s;
    settle_none = settle_none s;
    settle_refused = settle_unwritten s;
    settle_first = settle_first s;
    settle_refuses = settle_refuses s;
    settle_same = settle_same s;
    shorten_lists = shorten_lists s;
    shorten_none = shorten_none s;
    shorten_refused = shorten_unwritten s;
    shorten_first = shorten_first s;
    shorten_refuses = shorten_refuses s;
    shorten_not_12 = shorten_not_12 s;
    shorten_same = shorten_same s;
    same_bytes = same_bytes s;
    same_none = same_none s;
    settle_beginning = settle_beginning s;
    shorten_beginning = shorten_beginning s;
    choice_refused = choice_refused;
    counts_are = counts_are;
    few_proposals = λ whole cs. rw (last_fault (sheet_fault s)) (proposals_or (sheet_fault s) _ (joints s * joints s) (work_proposals whole cs));
    few_cuts = λ whole cs. rw (last_fault (sheet_fault s)) (cuts_or (sheet_fault s) _ (listed_pairs (entries_of s)) (work_cuts whole cs));
    pairs_half = pairs_half s;
    no_cuts = no_cuts;
    counts_small = λ whole cs. rw (last_fault (sheet_fault s)) (small_or (sheet_fault s) _ (λ f. work_few whole (joints s) (square_of s) (accepted_square s f) cs));
    no_choices = λ whole f.
        rw (counts_first whole s [])
        (fault_passes (sheet_fault s) _ f ∙ last_fault _ ∙ work_no_choices whole f);
  }
