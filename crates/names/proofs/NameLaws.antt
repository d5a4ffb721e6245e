-- Laws of names and their first fault: one more name, and names behind one that is refused.
use mathlib.Core.Path.{◌≡◌, refl, sym, ◌∙◌}
use mathlib.Core.Bool.{Bool, true, false}
use mathlib.Core.List.{List, [], ◌∷◌, ◌++◌}
use Prim.Native.Nat.{ℕ, ◌≤◌, ◌<◌}
use native.Mathlib.Numerals.{add-one}
use native.Mathlib.Omega.{arith}
use lib.ListN.{length, length-append, get_or-append}
use lib.Seq.{take-append-le, take-append_seam, get_or-append_seam}
use borrow.Author.Tests.{le-leb, lt-leb, leb-false}
use Rattle.base.specs.Faults.{first_fault, fault_below}
use Rattle.base.proofs.Faults.{first_none, when_none, below_stays, below_same}
use Rattle.words.specs.Words.{Words}
use Rattle.names.specs.Names.{is_name, is_known, is_unfit, name_fault, fault_at, names_fault}

-- A WORD AFTER NAMES: it cannot be a label, or is one of them
module _ (names : Words) (w : List ℕ) where
  pub no_label : is_name w ≡ false → true ≡ is_unfit names w
  unfolding is_unfit
  no_label e = rw e refl

  pub label_known : {known : Bool} → is_name w ≡ true → known ≡ is_known names w → known ≡ is_unfit names w
  unfolding is_unfit
  label_known e k = rw e k

  -- there are too many; it is unfit; it is new
  pub one_too_many : 128 ≤ length names → 2 ≡ name_fault names w
  unfolding name_fault first_fault
  one_too_many h = rw (le-leb 128 (length names) h) refl

  pub name_unfit : length names < 128 → is_unfit names w ≡ true → 20 ≡ name_fault names w
  unfolding name_fault first_fault
  name_unfit h e = rw (lt-leb 128 (length names) h, e) refl

  pub name_new : length names < 128 → is_unfit names w ≡ false → 0 ≡ name_fault names w
  unfolding name_fault first_fault
  name_new h e = rw (lt-leb 128 (length names) h, e) refl

  pub name_room : name_fault names w ≡ 0 → length names < 128
  unfolding name_fault
  name_room h = leb-false 128 (length names) (when_none _ _ (first_none _ _ h).0)

-- names that come later change no fault before them
fault_same : (names more : Words) (i : ℕ) → i < length names → fault_at (names ++ more) i ≡ fault_at names i
fault_same names more i l = rw (take-append-le i names more (omega arith), get_or-append names more [] i l) refl

below_names : (names more : Words) → fault_below (length names) (fault_at (names ++ more)) ≡ names_fault names
unfolding names_fault
below_names names more = below_same (length names) _ _ (λ i l. fault_same names more i l)

pub names_none : names_fault [] ≡ 0
unfolding names_fault fault_below
names_none = refl

pub names_more : (names : Words) (w : List ℕ) → names_fault (names ++ (w ∷ [])) ≡ first_fault (names_fault names ∷ name_fault names w ∷ [])
unfolding names_fault fault_below
names_more names w =
    rw (length-append names (w ∷ []), add-one (length names), below_names names (w ∷ []), take-append_seam names (w ∷ []), get_or-append_seam names w [] [])
    refl

-- the first fault stays the first
pub names_stay : (names more : Words) → (names_fault names ≡ 0 → ⊥) → names_fault (names ++ more) ≡ names_fault names
unfolding names_fault
names_stay names more h =
    let e = below_names names more in
    let l = length-append names more in
    below_stays (length names) (length (names ++ more)) (fault_at (names ++ more)) (λ z. h (sym e ∙ z)) (omega arith) ∙ e
