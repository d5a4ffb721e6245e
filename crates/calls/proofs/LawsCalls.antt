-- The calls' answers and buffers, one law for each way that the code takes.
use mathlib.Core.Path.{◌≡◌, refl, sym, ap, ◌∙◌}
use mathlib.Core.Bool.{Bool, false}
use mathlib.Core.List.{List, ◌∷◌, ◌++◌}
use Prim.Native.Nat.{ℕ, zero, suc, ◌+◌, ◌*◌, ◌≤◌, ◌<◌}
use native.Mathlib.Omega.{arith}
use native.Mathlib.Nat.{mul-le-mul}
use lib.ListN.{length, take}
use lib.Seq.{take_at}
use borrow.Author.Tests.{lt-ltb, le-ltb}
use Rattle.base.specs.Faults.{first_fault}
use Rattle.base.proofs.Faults.{fault_stops, fault_passes, last_fault}
use Rattle.sheet.specs.Format.{joints, rank_count}
use Rattle.sheet.specs.Refusals.{sheet_fault}
use Rattle.sheet.specs.Square.{square_of, SquarePromise}
use Rattle.sheet.specs.declared.Sheet.{Sheet}
use Rattle.sheet.specs.Readings.{reading_of, ReadsAs}
use Rattle.sheet.proofs.ReadAs.{reads, read_refused}
use Rattle.refusals.specs.declared.Refusal.{Refusal}
use Rattle.refusals.specs.declared.Refusal.TheVariants.{OutTooShort}
use Rattle.refusals.specs.Numbers.{number_of}
use Rattle.refusals.proofs.Numbers.{number_some, refusal_back, answered_refused}
use Rattle.std.proofs.Common.{Option, Some, Result, Ok, Err}
use Rattle.roommates.specs.PhaseOne.{Work}
use Rattle.roommates.specs.Lists.{Square}
use Rattle.roommates.specs.declared.Stage.{Stage}
use Rattle.roommates.specs.Moves.{Outcome, outcome}
use Rattle.roommates.specs.Left.{pairing_of, entry_count, list_bytes}
use Rattle.matching.proofs.PairCounts.{paired_few}
use Rattle.matching.specs.Matchings.{pair_count}
use Rattle.roommates.proofs.Sound.{promise_sound}
use Rattle.roommates.proofs.EntryCounts.{entries_bound, entries_kept}
use Rattle.roommates.proofs.EntriesListed.{all_listed, pairs_half}
use Rattle.records.specs.Records.{worked_by, settles_by, shortens_by}
use Rattle.records.proofs.RecordDemands.{worked_by_arrives}
use Rattle.roommates.proofs.WorkingsEnd.{arrived_shrunk, arrived_few}
use Rattle.roommates.proofs.PairsWritten.{pairing_length}
use Rattle.calls.specs.declared.End.{End}
use Rattle.calls.specs.declared.Counts.{Counts}
use Rattle.calls.specs.Calls.{Says, settle_says, shorten_says, on_sheet, settle_call, shorten_call, ended_as, listed_as}
use Rattle.calls.specs.Calls.{settled_by, shortened_by, result_over, left_by, counts, end_counts, counts_as, counts_of}
use Rattle.sheet.proofs.Sizes.{accepted_sizes}
use Rattle.calls.proofs.Answers.{unwritten}

-- AN ANSWER with the buffer beside it, by what the call says
module _ (c : Says) (out : List ℕ) where
  abbrev pub SettledSo : Result (End ℕ) Refusal → List ℕ → Type 0
  SettledSo r after = (r ≡ settled_by c) × (after ≡ left_by c out)

  abbrev pub ShortenedSo : Result (Option ℕ) Refusal → List ℕ → Type 0
  ShortenedSo r after = (r ≡ shortened_by c) × (after ≡ left_by c out)

  module _ (r : Refusal) (e : number_of r ≡ first_fault c.faults) where
    kept : out ≡ left_by c out
    kept = sym (unwritten (first_fault c.faults) c.verdict c.bytes out (omega (arith, e, number_some r)))

    pub so_refused : SettledSo (Err r) out
    so_refused = (answered_refused _ (first_fault c.faults) r e, kept)

    pub so_short : ShortenedSo (Err r) out
    so_short = (answered_refused _ (first_fault c.faults) r e, kept)

-- WHERE THE CALL STANDS among its refusals, given the working: 9, then the choices' own
module _ (n : ℕ) (t : Square) (cs : List ℕ) (room : ℕ) where
  pub settle_nine : room < n → first_fault (settle_says n t cs room).faults ≡ 9
  settle_nine h = rw (lt-ltb room n h) (fault_stops 9 _ (λ z. omega arith))

  pub settle_choice : n ≤ room → first_fault (settle_says n t cs room).faults ≡ (settles_by n t cs).refusal
  settle_choice h = fault_passes _ _ (rw (le-ltb room n h) refl) ∙ last_fault _

  pub shorten_nine : (m : ℕ) → room < 2 + 3 * m → first_fault (shorten_says n m t cs room).faults ≡ 9
  shorten_nine m h = rw (lt-ltb room (2 + 3 * m) h) (fault_stops 9 _ (λ z. omega arith))

  pub shorten_choice : (m : ℕ) → 2 + 3 * m ≤ room → first_fault (shorten_says n m t cs room).faults ≡ (shortens_by n t cs).refusal
  shorten_choice m h = fault_passes _ _ (rw (le-ltb room (2 + 3 * m) h) refl) ∙ last_fault _

-- SETTLE, over n joints' lists
module _ (n : ℕ) (t : Square) (cs out : List ℕ) where
  abbrev pub settling : Says
  settling = settle_says n t cs (length out)

  pub settled_short : length out < n → SettledSo settling out (Err OutTooShort) out
  settled_short h = so_refused settling out OutTooShort (sym (settle_nine n t cs (length out) h))

  -- the working w ended with the fault f, 0 for none
  module _ (f : ℕ) (w : Work) (e : outcome f w ≡ settles_by n t cs) (long : n ≤ length out) where
    choice : first_fault settling.faults ≡ f
    choice = settle_choice n t cs (length out) long ∙ sym (ap (λ (o : Outcome). o.refusal) e)

    pub settled_choice : (r : Refusal) → number_of r ≡ f → SettledSo settling out (Err r) out
    settled_choice r h = so_refused settling out r (h ∙ sym choice)

    pub settled_at : (v : Stage) → f ≡ 0 → w.stage ≡ v
        → SettledSo settling out (Ok (ended_as v (pair_count (pairing_of n w.lists)))) (result_over v (pairing_of n w.lists) out)
    settled_at v none h =
        let verdict : (settles_by n t cs).work_is.stage ≡ v = sym (ap (λ (o : Outcome). o.work_is.stage) e) ∙ h in
        let lists : (settles_by n t cs).work_is.lists ≡ w.lists = sym (ap (λ (o : Outcome). o.work_is.lists) e) in
        rw (choice, none, verdict, lists) (refl, refl)

-- SHORTEN, over n joints' lists with m entries
module _ (n m : ℕ) (t : Square) (cs out : List ℕ) where
  abbrev pub shortening : Says
  shortening = shorten_says n m t cs (length out)

  pub shortened_short : length out < 2 + 3 * m → ShortenedSo shortening out (Err OutTooShort) out
  shortened_short h = so_short shortening out OutTooShort (sym (shorten_nine n t cs (length out) m h))

  module _ (f : ℕ) (w : Work) (e : outcome f w ≡ shortens_by n t cs) (long : 2 + 3 * m ≤ length out) where
    choice' : first_fault shortening.faults ≡ f
    choice' = shorten_choice n t cs (length out) m long ∙ sym (ap (λ (o : Outcome). o.refusal) e)

    pub shortened_choice : (r : Refusal) → number_of r ≡ f → ShortenedSo shortening out (Err r) out
    shortened_choice r h = so_short shortening out r (h ∙ sym choice')

    pub shortened_at : (v : Stage) → f ≡ 0 → w.stage ≡ v
        → ShortenedSo shortening out (Ok (listed_as v (entry_count n w.lists))) (result_over v (list_bytes n w.lists) out)
    shortened_at v none h =
        let verdict : (shortens_by n t cs).work_is.stage ≡ v = sym (ap (λ (o : Outcome). o.work_is.stage) e) ∙ h in
        let lists : (shortens_by n t cs).work_is.lists ≡ w.lists = sym (ap (λ (o : Outcome). o.work_is.lists) e) in
        rw (choice', none, verdict, lists) (refl, refl)

-- OVER A SHEET: its own refusal, or what its joints and lists give
pub sheet_refused : (s later : List ℕ) (r : Refusal) → reading_of s ≡ Err r → number_of r ≡ first_fault (sheet_fault s ∷ later)
sheet_refused s later r h =
    let e = read_refused s r h in
    e ∙ sym (fault_stops (sheet_fault s) later (λ z. omega (arith, e, z, number_some r)))

module _ (s : List ℕ) (c : Says) where
  pub settled_accepted : (out : List ℕ) {r : Result (End ℕ) Refusal} {after : List ℕ} → sheet_fault s ≡ 0 → SettledSo c out r after → SettledSo (on_sheet s c) out r after
  settled_accepted out f h = rw (fault_passes (sheet_fault s) c.faults f) h

  pub shortened_accepted : (out : List ℕ) {r : Result (Option ℕ) Refusal} {after : List ℕ} → sheet_fault s ≡ 0 → ShortenedSo c out r after → ShortenedSo (on_sheet s c) out r after
  shortened_accepted out f h = rw (fault_passes (sheet_fault s) c.faults f) h

-- THE COUNTS
counts_or : (f : ℕ) (e : Outcome) → 1 ≤ f → counts_as f e ≡ counts f 0 0
counts_or zero e h = absurd (omega arith)
counts_or (suc f) e h = refl

module _ (whole : Bool) (s cs : List ℕ) where
  abbrev end : Outcome
  end = worked_by whole (joints s) (square_of s) cs

  pub counts_refused : (r : Refusal) → reading_of s ≡ Err r → record { refusal = Some r; proposals = 0; cuts = 0 } ≡ counts_of whole s cs
  counts_refused r h =
      let e = read_refused s r h in
      rw (last_fault (sheet_fault s), ← e)
      (sym (counts_or (number_of r) end (number_some r) ∙ ap (λ (o : Option Refusal). record { refusal = o; proposals = 0; cuts = 0 }) (refusal_back r)))

  pub counts_accepted : sheet_fault s ≡ 0 → {r : Counts} → r ≡ end_counts end → r ≡ counts_of whole s cs
  counts_accepted f h = rw (last_fault (sheet_fault s), f) h

-- .. with n joints, m entries and the square t, as they were read
pub record ReadWith (s : List ℕ) (n m : ℕ) (t : Square) : Type 0 where
  pub faultless : sheet_fault s ≡ 0
  pub joints_are : n ≡ joints s
  pub entries_are : m ≡ rank_count s
  pub square_is : t ≡ square_of s

pub read_with : (s : List ℕ) (read : Sheet) → ReadsAs s read → ReadWith s read.rankings.joints.count read.parts.entries read.rankings.bands
read_with s read h =
    let parts = reads s read h in
    record { faultless = parts.faultless; joints_are = h.joints_are; entries_are = parts.m_entries; square_is = h.square_is }

module _ (s : List ℕ) (n m : ℕ) (t : Square) (known : ReadWith s n m t) where
  pub read_entries : (entry_count n t ≤ m) × (m ≤ 128 * 127)
  read_entries =
      rw (known.square_is, known.joints_are, known.entries_are)
      (let all = all_listed s known.faultless in let half = pairs_half s known.faultless in omega arith, (accepted_sizes s known.faultless).most_entries)

  pub settle_read : (cs out : List ℕ) {r : Result (End ℕ) Refusal} {after : List ℕ} → SettledSo (settling n t cs out) out r after
      → SettledSo (settle_call s cs out) out r after
  settle_read cs out h = settled_accepted s (settling (joints s) (square_of s) cs out) out known.faultless (rw (known.square_is, known.joints_are) at h)

  pub shorten_read : (cs out : List ℕ) {r : Result (Option ℕ) Refusal} {after : List ℕ} → ShortenedSo (shortening n m t cs out) out r after
      → ShortenedSo (shorten_call s cs out) out r after
  shorten_read cs out h =
      shortened_accepted s (shortening (joints s) (rank_count s) (square_of s) cs out) out known.faultless
      (rw (known.square_is, known.joints_are, known.entries_are) at h)

  pub counts_read : (whole : Bool) (cs : List ℕ) {r : Counts} → r ≡ end_counts (worked_by whole n t cs) → r ≡ counts_of whole s cs
  counts_read whole cs h = counts_accepted whole s cs known.faultless (rw (known.square_is, known.joints_are) at h)

-- HOW MUCH there is to write and to count
-- the writer's count, taken from the bytes that it wrote
pub pairs_written : (n : ℕ) (u : Square) (rest after : List ℕ) → after ≡ pairing_of n u ++ rest → pair_count (take n after) ≡ pair_count (pairing_of n u)
pairs_written n u rest after e = rw (e, take_at (pairing_of n u) rest n (pairing_length n u))

pub pairs_few : (n : ℕ) → n ≤ 128 → (u : Square) → pair_count (pairing_of n u) ≤ 64
pairs_few n few u =
    let h = paired_few (pairing_of n u) in
    let e = pairing_length n u in
    omega arith

-- both counts fit a u32, refused choices included
pub work_few : (whole : Bool) (n : ℕ) (t : Square) → SquarePromise n t → (cs : List ℕ)
    → ((worked_by whole n t cs).work_is.proposals ≤ 16384) × ((worked_by whole n t cs).work_is.cuts ≤ 16384)
work_few whole n t promise cs =
    let k = mul-le-mul promise.few_joints promise.few_joints in
    let few = arrived_few (promise_sound promise) (worked_by_arrives whole n t cs) in
    let few0 = few.0 in
    let few1 = few.1 in
    let e = entries_bound n t in
    (omega arith, omega arith)

-- the lists that shorten's working leaves have no more entries than there were
pub left_fits : (n : ℕ) (t : Square) (cs : List ℕ) → SquarePromise n t → entry_count n (shortens_by n t cs).work_is.lists ≤ entry_count n t
left_fits n t cs promise =
    let k = arrived_shrunk (promise_sound promise) (worked_by_arrives false n t cs) in
    entries_kept n t (shortens_by n t cs).work_is.lists k.below
