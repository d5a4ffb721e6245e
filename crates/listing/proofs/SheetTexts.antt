-- A sheet's text by the cases of its reading and of settle's answer.
use mathlib.Core.Path.{◌≡◌, refl, sym, ◌∙◌}
use mathlib.Core.Logic.{inl}
use mathlib.Core.Bool.{true, false}
use lib.Dec.{ltb}
use mathlib.Core.List.{List, [], ◌∷◌, ◌++◌}
use Prim.Native.Nat.{ℕ, zero, suc, ◌≤◌, ◌<◌}
use native.Mathlib.Omega.{arith}
use lib.ListN.{length, take, drop, length-append}
use lib.Seq.{take_at}
use borrow.Author.Tests.{eqb-false}
use Rattle.base.proofs.Cases.{case, lt_ge}
use Rattle.base.specs.Faults.{first_fault}
use Rattle.base.proofs.Faults.{fault_stops, fault_passes}
use Rattle.sheet.specs.Format.{joints, label_of}
use Rattle.sections.specs.Labels.{label_at}
use Rattle.sheet.specs.Refusals.{sheet_fault}
use Rattle.sheet.specs.Square.{square_of}
use Rattle.sheet.specs.declared.Sheet.{Sheet}
use Rattle.sheet.specs.Readings.{reading_of, ReadsAs}
use Rattle.sheet.proofs.Numbers.{sheet_is_fault}
use Rattle.sheet.proofs.ReadAs.{reads, read_refused}
use Rattle.sheet.proofs.Accepted.{accepted}
use Rattle.roommates.specs.Lists.{Square, row, list_length}
use Rattle.roommates.specs.Left.{partner_on, pairing_of}
use Rattle.records.specs.Records.{settles_by}
use Rattle.roommates.proofs.PairsWritten.{partner_none, partner_some, pairing_length, pairing_at}
use Rattle.matching.specs.Matchings.{partner, is_alone}
use Rattle.calls.specs.declared.Phase.{Phase}
use Rattle.calls.specs.declared.End.{End}
use Rattle.calls.specs.declared.End.TheVariants as E
use Rattle.std.specs.Prelude.{Result, Ok, Err}
use Rattle.refusals.specs.declared.Refusal.{Refusal}
use Rattle.refusals.specs.Numbers.{number_of, answered}
use Rattle.refusals.proofs.Numbers.{IsFault, number_some, answered_refused}
use Rattle.calls.specs.Calls.{phase_number, settle_says, settle_call, ended_as, left_by, partners_of, settle_answer}
use Rattle.calls.proofs.Answers.{choice_is_fault, faults_are, pairing_written}
use Rattle.writing.proofs.Decimals.{number_line_short}
use Rattle.listing.specs.Text.{none_word, refused_word, pairing_text, none_text, refused_text, Labelled}
use Rattle.listing.specs.Sheets.{answer_text, buffer, answer, lists_text, text_or, sheet_text}
use Rattle.listing.specs.Claims.{TextIsSettles, TextShort}
use Rattle.listing.proofs.LineLaws.{labels_short, pairing_short}

-- LISTS
module _ (label : ℕ → List ℕ) (n : ℕ) (t : Square) where
  pub text_refused : {r : Refusal} → answer n t ≡ Err r → lists_text label n t ≡ refused_text (number_of r)
  unfolding lists_text
  text_refused e = rw e

  pub text_none : {p : Phase} → answer n t ≡ Ok (E.None p) → lists_text label n t ≡ none_text (phase_number p)
  unfolding lists_text
  text_none e = rw e

-- each partner byte of a pairing is 255 or a joint
partner_within : (n : ℕ) (l : List ℕ) → (partner_on n l ≡ 255 → ⊥) → partner_on n l < n
partner_within n l h = case (lt_ge 0 (list_length n l)) (λ some. (partner_some n l some).0) (λ none. absurd (h (partner_none n l (omega arith))))

pairing_within : (n : ℕ) (t : Square) (i : ℕ) → i < n → is_alone (pairing_of n t) i ≡ false → partner (pairing_of n t) i < n
pairing_within n t i h =
    rw (pairing_at n t i h) (λ e. partner_within n (row t i) (eqb-false (partner_on n (row t i)) 255 e))

-- Lists with a pairing, and the bytes that begin with it: what writing it asks.
pub record PairedLists (label : ℕ → List ℕ) (n : ℕ) (t : Square) (bytes : List ℕ) : Type 0 where
  pub long : n ≤ length bytes
  pub size : length (take n bytes) ≡ n
  pub within : (i : ℕ) → i < n → is_alone (take n bytes) i ≡ false → partner (take n bytes) i < n
  pub text : lists_text label n t ≡ pairing_text label (take n bytes)

no_fault : (n : ℕ) (t : Square) → IsFault (first_fault (settle_says n t [] (length buffer)).faults)
no_fault n t =
    let says = settle_says n t [] (length buffer) in
    let f : IsFault (first_fault (0 ∷ says.faults)) = faults_are 0 (ltb (length buffer) n) (settles_by n t []).refusal (inl refl) (choice_is_fault true n t []) in
    rw (fault_passes 0 says.faults refl) at f

pub paired_lists : (label : ℕ → List ℕ) (n : ℕ) (t : Square) {k : ℕ} {bytes : List ℕ} → answer n t ≡ Ok (E.Paired k)
    → bytes ≡ left_by (settle_says n t [] (length buffer)) buffer → PairedLists label n t bytes
unfolding lists_text
paired_lists label n t {k} {bytes} e b =
    let m = partners_of n t [] in
    let rest : List ℕ = drop (length m) buffer in
    let c = settle_says n t [] (length buffer) in
    let is : bytes ≡ m ++ rest = b ∙ pairing_written (first_fault c.faults) c.verdict c.count m buffer (no_fault n t) e in
    let size : length m ≡ n = pairing_length n (settles_by n t []).work_is.lists in
    let front : take n (m ++ rest) ≡ m = take_at m rest n size in
    rw is record {
      long = rw length-append (omega arith);
      size = rw front size;
      within = rw front (pairing_within n (settles_by n t []).work_is.lists);
      text = rw (e, front);
    }

-- SHEETS
pub text_is_settles : TextIsSettles
unfolding sheet_text lists_text
text_is_settles s = go (sheet_fault s) refl
  where
    go : (f : ℕ) → sheet_fault s ≡ f → text_or f s ≡ answer_text (label_of s) (partners_of (joints s) (square_of s) []) (settle_answer s [] buffer)
    go zero e = rw (fault_passes (sheet_fault s) _ e)
    go (suc k) e = case (sheet_is_fault s)
        (λ z. absurd (omega arith))
        (λ r.
        let c = settle_call s [] buffer in
        let first : first_fault c.faults ≡ sheet_fault s = fault_stops (sheet_fault s) _ (λ z. omega arith) in
        let is : answered (first_fault c.faults) (ended_as c.verdict c.count) ≡ Err r.0 =
        sym (answered_refused (ended_as c.verdict c.count) (first_fault c.faults) r.0 (r.1 ∙ sym first)) in
        rw (is, r.1, e) refl)

pub text_accepted : (s : List ℕ) → sheet_fault s ≡ 0 → sheet_text s ≡ lists_text (label_of s) (joints s) (square_of s)
unfolding sheet_text
text_accepted s e = rw e

pub text_fault : (s : List ℕ) (r : Refusal) → reading_of s ≡ Err r → sheet_text s ≡ refused_text (number_of r)
unfolding sheet_text
text_fault s r h = go (sheet_fault s) (read_refused s r h)
  where
    go : (f : ℕ) → number_of r ≡ f → text_or f s ≡ refused_text (number_of r)
    go zero e = let some = number_some r in absurd (omega arith)
    go (suc k) e = rw e refl

-- what reading an accepted sheet tells: its labels lie before its rankings, and its text is that of its lists
pub record ListedSheet (s : List ℕ) (n labels rankings : ℕ) (t : Square) : Type 0 where
  pub labelled : Labelled s labels rankings n
  pub text : sheet_text s ≡ lists_text (label_at s labels) n t

pub listed_sheet : (s : List ℕ) (read : Sheet) → ReadsAs s read
    → ListedSheet s read.rankings.joints.count read.parts.labels read.parts.rankings read.rankings.bands
listed_sheet s read known =
    let parts = reads s read known in
    let a = accepted s parts.faultless in
    rw (known.square_is, parts.labels_start_lem, known.joints_are, parts.entries_start) record {
      labelled = record { few = a.few_joints; fit = omega arith; inside = omega (arith, a.reaches) };
      text = text_accepted s parts.faultless;
    }

-- LENGTHS
lists_short : (s : List ℕ) (n : ℕ) (t : Square) → n ≤ 128 → length (lists_text (label_of s) n t) ≤ 4400
unfolding lists_text
lists_short s n t few = go (answer n t)
  where
    go : (a : Result (End ℕ) Refusal) → length (answer_text (label_of s) (partners_of n t []) a) ≤ 4400
    go (Ok (E.Paired k)) =
        let size : length (partners_of n t []) ≡ n = pairing_length n (settles_by n t []).work_is.lists in
        let h = pairing_short (label_of s) (labels_short s 1) (partners_of n t []) (omega arith) in
        omega arith
    go (Ok (E.None p)) = let h = number_line_short none_word (phase_number p) in omega arith
    go (Err r) = let h = number_line_short refused_word (number_of r) in omega arith

pub text_short : TextShort
unfolding sheet_text
text_short s = go (sheet_fault s) refl
  where
    go : (f : ℕ) → sheet_fault s ≡ f → length (text_or f s) ≤ 4400
    go zero e = lists_short s (joints s) (square_of s) (accepted s e).few_joints
    go (suc k) e = let h = number_line_short refused_word (suc k) in omega arith
