-- Records that are not refused are as good as the steps standing after them; and leaving off is as good as choosing what the rule names.
use mathlib.Core.Path.{◌≡◌, sym, ◌∙◌, ap}
use mathlib.Core.Bool.{Bool, true, false}
use mathlib.Core.List.{List, [], ◌∷◌, ◌++◌}
use Prim.Native.Nat.{ℕ}
use lib.ListN.{length}
use Rattle.base.specs.Faults.{first_fault}
use Rattle.base.proofs.Faults.{first_none, last_fault}
use Rattle.refusals.specs.Numbers.{fault_of, fault_in}
use Rattle.sheet.specs.Format.{joints, rank_count}
use Rattle.sheet.specs.Refusals.{sheet_fault}
use Rattle.sheet.specs.Square.{square_of}
use Rattle.sheet.proofs.PromiseKept.{accepted_square}
use Rattle.roommates.specs.Moves.{Outcome}
use Rattle.roommates.proofs.RuleSaid.{rule_said}
use Rattle.records.specs.Records.{records_of, worked_by}
use Rattle.records.specs.Standing.{standing, step_bytes}
use Rattle.records.proofs.RecordDemands.{bytes_replayed, steps_replayed}
use Rattle.records.proofs.RecordRefusals.{record_refusals}
use Rattle.calls.specs.Calls.{Says, on_sheet, settle_of, shorten_of, settled_by, settle_answer, settle_bytes, shortened_by, shorten_answer, shorten_bytes}
use Rattle.calls.specs.Calls.{left_by, end_counts, counts_as, counts_of}
use Rattle.promises.specs.Claims.{standing_bytes, CallsReplayed, LongestIsCut}
use Rattle.promises.proofs.SettleKeeps.{counts_first, settle_ran, settle_unrefused}
use Rattle.promises.proofs.ShortenKeeps.{shorten_ran, shorten_unrefused}

-- two lists with the same working get the same answer, bytes and counts
module _ (s cs ds : List ℕ) where
  settle_as : worked_by true (joints s) (square_of s) cs ≡ worked_by true (joints s) (square_of s) ds → (out : List ℕ)
      → (settle_answer s cs out ≡ settle_answer s ds out) × (settle_bytes s cs out ≡ settle_bytes s ds out)
  settle_as e out =
      let says : Outcome → Says = λ o. on_sheet s (settle_of (joints s) (length out) o) in
      (ap (λ (o : Outcome). settled_by (says o)) e, ap (λ (o : Outcome). left_by (says o) out) e)

  counts_as_lem : (whole : Bool) → worked_by whole (joints s) (square_of s) cs ≡ worked_by whole (joints s) (square_of s) ds → counts_of whole s cs ≡ counts_of whole s ds
  counts_as_lem whole e = ap (counts_as (first_fault (sheet_fault s ∷ []))) e

module _ (s cs : List ℕ) where
  same : (whole : Bool) → (worked_by whole (joints s) (square_of s) cs).refusal ≡ 0
      → worked_by whole (joints s) (square_of s) cs ≡ worked_by whole (joints s) (square_of s) (standing_bytes cs)
  same whole z =
      bytes_replayed whole (joints s) (square_of s) cs z ∙ sym (steps_replayed whole (joints s) (square_of s) (standing (records_of cs)))

  settle_replayed : (out : List ℕ) → fault_in (settle_answer s cs out) ≡ 0
      → (settle_answer s cs out ≡ settle_answer s (standing_bytes cs) out) × (settle_bytes s cs out ≡ settle_bytes s (standing_bytes cs) out)
  settle_replayed out h = settle_as s cs (standing_bytes cs) (same true (settle_ran s cs out (settle_unrefused s cs out h)).2) out

  shorten_replayed : (out : List ℕ) → fault_in (shorten_answer s cs out) ≡ 0
      → (shorten_answer s cs out ≡ shorten_answer s (standing_bytes cs) out) × (shorten_bytes s cs out ≡ shorten_bytes s (standing_bytes cs) out)
  shorten_replayed out h =
      let e = same false (shorten_ran s cs out (shorten_unrefused s cs out h)).2 in
      let says : Outcome → Says = λ o. on_sheet s (shorten_of (joints s) (rank_count s) (length out) o) in
      (ap (λ (o : Outcome). shortened_by (says o)) e, ap (λ (o : Outcome). left_by (says o) out) e)

  counts_replayed : (whole : Bool) → fault_of (counts_of whole s cs).refusal ≡ 0 → counts_of whole s cs ≡ counts_of whole s (standing_bytes cs)
  counts_replayed whole h =
      let none : first_fault (sheet_fault s ∷ ((worked_by whole (joints s) (square_of s) cs).refusal ∷ [])) ≡ 0
      = sym (counts_first whole s cs) ∙ h in
      let z = sym (last_fault _) ∙ (first_none (sheet_fault s) _ none).1 in
      counts_as_lem s cs (standing_bytes cs) whole (same whole z)

pub calls_replayed : CallsReplayed
calls_replayed s cs = record {
  settle_replayed = settle_replayed s cs;
  shorten_replayed = shorten_replayed s cs;
  counts_replayed = counts_replayed s cs;
  counts_beside = λ whole k f even r.
      rw (last_fault (sheet_fault s), f) (ap end_counts ((record_refusals whole (joints s) (square_of s) cs).left_there even r));
}

pub longest_is_cut : LongestIsCut
longest_is_cut s cs w f made h =
    let n : ℕ = joints s in
    let left = (rule_said true n (square_of s) (accepted_square s f) cs w made).in_phase_two h in
    let x : ℕ = left.0 in
    let steps = steps_replayed true n (square_of s) in
    let same = steps cs ∙ left.2 ∙ sym (steps (cs ++ (x ∷ []))) in (
      x,
      record {
        longest = left.1;
        settle_alike = settle_as s (step_bytes cs) (step_bytes (cs ++ (x ∷ []))) same;
        counts_alike = counts_as_lem s (step_bytes cs) (step_bytes (cs ++ (x ∷ []))) true same;
      },
    )
