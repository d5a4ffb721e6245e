-- Laws of the call import, one for each way out of it: a refusal met, no room, a sheet written.
use mathlib.Core.Path.{◌≡◌, refl, sym, ap, ◌∙◌}
use mathlib.Core.Bool.{Bool}
use mathlib.Core.List.{List, [], ◌∷◌}
use mathlib.Core.Logic.{◌↔◌, ◌⊎◌, inl, inr}
use Prim.Native.Nat.{ℕ, zero, suc, ◌≤◌, ◌<◌}
use native.Mathlib.Omega.{arith}
use lib.Dec.{ltb}
use lib.ListN.{length}
use borrow.Author.Tests.{lt-ltb, le-ltb}
use Rattle.std.specs.Prelude.{Result, Ok, Err}
use Rattle.base.specs.Faults.{when}
use Rattle.base.proofs.Cases.{case}
use Rattle.base.proofs.Faults.{first_holds, fault_stops, fault_passes, last_fault, when_holds}
use Rattle.refusals.specs.declared.Refusal.{Refusal}
use Rattle.refusals.specs.declared.Refusal.TheVariants.{OutTooShort}
use Rattle.refusals.specs.Numbers.{number_of}
use Rattle.refusals.proofs.Numbers.{number_some, IsFault, is_fault, answered_none, answered_refused, value_answered, refusal_answered}
use Rattle.writing.specs.Written.{over}
use Rattle.words.specs.Words.{Words}
use Rattle.names.specs.declared.joints.NamedJoint.{NamedJoint}
use Rattle.names.specs.Names.{names_fault}
use Rattle.names.specs.Kept.{kept_names}
use Rattle.names.proofs.NamesRule.{names_refused}
use Rattle.hierarchy.specs.Hierarchy.{Met, left, broken, hierarchy, joints_met, met_fault}
use Rattle.hierarchy.specs.Gathered.{gathered, WasRead}
use Rattle.bvh.specs.Written.{sheet_for}
use Rattle.bvh.specs.Places.{written_size}
use Rattle.bvh.specs.Answers.{sheet_in, import_fault, written_as, import_of, import_into}
use Rattle.bvh.proofs.WriteLaws.{sheet_size}

-- A REFUSAL'S NUMBER
abbrev pub Number : ℕ → Type 0
Number k = 1 ≤ k → (k ≡ 2) ⊎ ((k ≡ 9) ⊎ ((k ≡ 19) ⊎ (k ≡ 20)))

none_number : Number 0
none_number some = absurd (omega arith)

names_number : (names : Words) → Number (names_fault names)
names_number names some =
    case (names_refused names).number (λ z. absurd (omega arith)) (λ h. case h inl (λ e. inr (inr (inr e))))

met_number : (met : Met) → Number (met_fault met)
unfolding met_fault
met_number (left ws js) = names_number js.names
met_number (broken js) =
    first_holds Number (names_fault js.names) (19 ∷ []) (names_number js.names) (rw (last_fault 19) (λ some. inr (inr (inl refl))))

pub number_fault : (k : ℕ) → Number k → IsFault k
number_fault zero n = inl refl
number_fault (suc k) n =
    case (n (omega arith)) (λ e. is_fault _ (omega arith) (λ z. omega arith))
    (λ h. case h (λ e. is_fault _ (omega arith) (λ z. omega arith))
    (λ h. case h (λ e. is_fault _ (omega arith) (λ z. omega arith)) (λ e. is_fault _ (omega arith) (λ z. omega arith))))

module _ (s : List ℕ) (room : ℕ) where
  pub import_number : Number (import_fault s room)
  import_number =
      let nine = when (ltb room (length (sheet_in s))) 9 in
      let last = when_holds Number (ltb room (length (sheet_in s))) 9 none_number (λ some. inr (inl refl)) in
      first_holds Number (met_fault (hierarchy s)) (nine ∷ []) (met_number (hierarchy s)) (rw (last_fault nine) last)

  -- AN ANSWER by the first refusal
  pub refused_says : (r : Refusal) → import_of s room ≡ Err r ↔ (import_fault s room ≡ number_of r)
  refused_says r = (
    λ h. sym (refusal_answered (length (sheet_in s)) (import_fault s room) r h),
    λ e. sym (answered_refused (length (sheet_in s)) (import_fault s room) r (sym e)),
  )

  pub sheet_says : (size : ℕ) → import_of s room ≡ Ok size ↔ ((import_fault s room ≡ 0) × (size ≡ length (sheet_in s)))
  sheet_says size = (
    λ h. let told = value_answered (length (sheet_in s)) (import_fault s room) size (number_fault _ import_number) h in (told.0, sym told.1),
    λ h. rw h.1 (sym (answered_none (length (sheet_in s)) (import_fault s room) h.0)),
  )

pub refused_keeps : (f : ℕ) (sheet out : List ℕ) → 1 ≤ f → written_as f sheet out ≡ out
refused_keeps zero sheet out some = absurd (omega arith)
refused_keeps (suc f) sheet out some = refl

pub sheet_over : (f : ℕ) (sheet out : List ℕ) → f ≡ 0 → written_as f sheet out ≡ over sheet out
sheet_over zero sheet out none = refl
sheet_over (suc f) sheet out none = absurd (omega arith)

-- what the code answers for a text and a buffer, and what it leaves in the buffer
abbrev pub Says : List ℕ → List ℕ → Result ℕ Refusal → List ℕ → Type 0
Says s out r after = (r ≡ import_of s (length out)) × (after ≡ import_into s out)

refused : (s out : List ℕ) (r : Refusal) → import_fault s (length out) ≡ number_of r → Says s out (Err r) out
refused s out r e =
    let some = number_some r in
    (sym ((refused_says s (length out) r).1 e), sym (refused_keeps (import_fault s (length out)) (sheet_in s) out (omega arith)))

-- A REFUSAL MET
pub import_refused : (s out : List ℕ) (r : Refusal) → met_fault (hierarchy s) ≡ number_of r → Says s out (Err r) out
import_refused s out r e =
    let some = number_some r in
    refused s out r (fault_stops (met_fault (hierarchy s)) _ (λ z. omega arith) ∙ e)

-- A HIERARCHY READ
module _ {s rest : List ℕ} {joints : List NamedJoint} (good : names_fault (kept_names joints) ≡ 0) (read : WasRead s rest joints (hierarchy s)) where
  read_sheet : sheet_in s ≡ sheet_for (gathered joints)
  unfolding joints_met
  read_sheet = ap sheet_for (ap joints_met read.says)

  read_size : length (sheet_in s) ≡ written_size (length joints)
  read_size = ap length read_sheet ∙ sheet_size joints good

  -- so only the buffer can be at fault
  read_fault : (out : List ℕ) → import_fault s (length out) ≡ when (ltb (length out) (length (sheet_in s))) 9
  unfolding met_fault
  read_fault out =
      let none : met_fault (hierarchy s) ≡ 0 = ap met_fault read.says ∙ good in
      fault_passes _ _ none ∙ last_fault _

  pub import_short : (out : List ℕ) (size : ℕ) → size ≡ written_size (length joints) → length out < size → Says s out (Err OutTooShort) out
  import_short out size e h =
      let long = read_size in
      let full = lt-ltb (length out) (length (sheet_in s)) (omega arith) in
      refused s out OutTooShort (read_fault out ∙ ap (λ (b : Bool). when b 9) full)

  pub import_written : (out after : List ℕ) (size : ℕ) → size ≡ written_size (length joints) → size ≤ length out
      → after ≡ over (sheet_for (gathered joints)) out → Says s out (Ok size) after
  import_written out after size e h wrote =
      let long = read_size in
      let fits = le-ltb (length out) (length (sheet_in s)) (omega arith) in
      let none : import_fault s (length out) ≡ 0 = read_fault out ∙ ap (λ (b : Bool). when b 9) fits in
      let whole : after ≡ over (sheet_in s) out = rw read_sheet wrote in
      (sym ((sheet_says s (length out) size).1 (none, omega arith)), whole ∙ sym (sheet_over (import_fault s (length out)) (sheet_in s) out none))
