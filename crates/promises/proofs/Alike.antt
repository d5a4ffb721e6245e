-- Sheets that are answered alike: what a call says of an accepted sheet goes by its joints and its square, and for shorten by its count of entries.
use mathlib.Core.Path.{◌≡◌, refl, sym, ap, ◌∙◌}
use mathlib.Core.Bool.{Bool, not}
use mathlib.Core.List.{List}
use Prim.Native.Nat.{ℕ, ◌+◌, ◌*◌, ◌≤◌}
use native.Mathlib.Omega.{arith}
use lib.ListN.{length}
use borrow.Author.Tests.{le-ltb}
use Rattle.base.specs.Faults.{when}
use Rattle.base.proofs.Faults.{fault_passes, last_fault}
use Rattle.sections.specs.declared.Entry.{Entry}
use Rattle.sections.proofs.EntryList.{length_entries}
use Rattle.square.specs.Mutual.{mutual_entries}
use Rattle.sheet.specs.Format.{joints, rank_count, rankings_part, entries_of}
use Rattle.sheet.specs.Refusals.{sheet_fault}
use Rattle.sheet.specs.Square.{square_of, placed}
use Rattle.matching.specs.Matchings.{is_matching}
use Rattle.blocking.specs.Blocking.{blocking_pair}
use Rattle.roommates.specs.Lists.{Square}
use Rattle.records.specs.Records.{worked_by}
use Rattle.relisting.proofs.OtherParents.{other_parents}
use Rattle.refusals.specs.Numbers.{answered}
use Rattle.offered.specs.Checks.{check_of}
use Rattle.calls.specs.Calls.{Says, settled_by, shortened_by, left_by, settle_says, shorten_says, settle_answer, settle_bytes, shorten_answer, shorten_bytes, end_counts, counts_of}
use Rattle.promises.specs.Claims.{SameAnswers, ShortenedAlike, SameRankings, ParentsChanged}

-- AN ACCEPTED SHEET with n joints and the square t
module _ (s : List ℕ) (n : ℕ) (t : Square) (f : sheet_fault s ≡ 0) (same : square_of s ≡ t) (number : joints s ≡ n) where
  settle_on : (cs out : List ℕ) → (settle_answer s cs out ≡ settled_by (settle_says n t cs (length out)))
      × (settle_bytes s cs out ≡ left_by (settle_says n t cs (length out)) out)
  settle_on cs out = (rw (fault_passes (sheet_fault s) _ f, same, number), rw (fault_passes (sheet_fault s) _ f, same, number))

  -- where the buffer has room for the sheet's entries their number plays no part: 0 stands for it
  pub shorten_roomy : (cs out : List ℕ) → 2 + 3 * rank_count s ≤ length out → (shorten_answer s cs out ≡ shortened_by (shorten_says n 0 t cs (length out)))
      × (shorten_bytes s cs out ≡ left_by (shorten_says n 0 t cs (length out)) out)
  shorten_roomy cs out fits =
      let least : 2 + 3 * 0 ≤ length out = omega arith in (
        rw (fault_passes (sheet_fault s) _ f, le-ltb (length out) (2 + 3 * rank_count s) fits, le-ltb (length out) (2 + 3 * 0) least, same, number),
        rw (fault_passes (sheet_fault s) _ f, le-ltb (length out) (2 + 3 * rank_count s) fits, le-ltb (length out) (2 + 3 * 0) least, same, number),
      )

  counts_on : (whole : Bool) (cs : List ℕ) → counts_of whole s cs ≡ end_counts (worked_by whole n t cs)
  counts_on whole cs = rw (last_fault (sheet_fault s), f, same, number)

  check_on : (m : List ℕ) → check_of s m ≡ answered (when (not (is_matching n t m)) 10) (blocking_pair n t m)
  check_on m = rw (fault_passes (sheet_fault s) _ f, last_fault (when (not (is_matching (joints s) (square_of s) m)) 10), same, number)

  shorten_on : (m : ℕ) → rank_count s ≡ m → (cs out : List ℕ) → (shorten_answer s cs out ≡ shortened_by (shorten_says n m t cs (length out)))
      × (shorten_bytes s cs out ≡ left_by (shorten_says n m t cs (length out)) out)
  shorten_on m count cs out =
      let says : ℕ → Says = λ k. shorten_says (joints s) k (square_of s) cs (length out) in
      let answer : shorten_answer s cs out ≡ shortened_by (says (rank_count s)) = rw (fault_passes (sheet_fault s) _ f) refl in
      let bytes : shorten_bytes s cs out ≡ left_by (says (rank_count s)) out = rw (fault_passes (sheet_fault s) _ f) refl in (
        answer ∙ ap (λ (k : ℕ). shortened_by (says k)) count ∙ rw (same, number) refl,
        bytes ∙ ap (λ (k : ℕ). left_by (says k) out) count ∙ rw (same, number) refl,
      )

-- TWO OF THEM
module _ (s r : List ℕ) (f : sheet_fault s ≡ 0) (g : sheet_fault r ≡ 0) (number : joints r ≡ joints s) (same : square_of r ≡ square_of s) where
  pub same_answers : SameAnswers s r
  same_answers = record {
    settle_alike = λ cs out.
        let a = settle_on s (joints s) (square_of s) f refl refl cs out in
        let b = settle_on r (joints s) (square_of s) g same number cs out in
        (a.0 ∙ sym b.0, a.1 ∙ sym b.1);
    counts_alike = λ whole cs. counts_on s (joints s) (square_of s) f refl refl whole cs ∙ sym (counts_on r (joints s) (square_of s) g same number whole cs);
    check_alike = λ m. check_on s (joints s) (square_of s) f refl refl m ∙ sym (check_on r (joints s) (square_of s) g same number m);
  }

  shortened_alike : rank_count r ≡ rank_count s → (cs out : List ℕ) → ShortenedAlike s r cs out
  shortened_alike count cs out =
      let a = shorten_on s (joints s) (square_of s) f refl refl (rank_count s) refl cs out in
      let b = shorten_on r (joints s) (square_of s) g same number (rank_count s) count cs out in
      (a.0 ∙ sym b.0, a.1 ∙ sym b.1)

-- as many entries as there are
entry_count_lem : (s : List ℕ) → length (entries_of s) ≡ rank_count s
entry_count_lem s = length_entries (rank_count s) 0 (rankings_part s)

pub same_rankings : SameRankings
same_rankings s r f g number entries =
    let square : square_of r ≡ square_of s = ap (λ (es : List Entry). placed (mutual_entries es)) (sym entries) in
    let count : rank_count r ≡ rank_count s = sym (entry_count_lem r) ∙ ap length (sym entries) ∙ entry_count_lem s in
    record { alike = same_answers s r f g (sym number) square; shorten_alike = shortened_alike s r f g (sym number) square count }

pub parents_changed : ParentsChanged
parents_changed s own f section =
    let but = other_parents s own f section in
    (but.accepted, same_rankings s _ f but.accepted (sym but.same_joints) (sym but.same_entries))
