-- The answer of check, one law for each way that the code takes.
use Rattle.std.proofs.Common.{◌≡◌, ℕ, List, Bool, true, false, Option, Result, Ok, Err, refl, sym, ◌∙◌}
use mathlib.Core.Bool.{not, cond}
use native.Mathlib.Omega.{arith}
use Rattle.base.specs.Faults.{when, first_fault}
use Rattle.base.proofs.Faults.{fault_stops, fault_passes, last_fault}
use Rattle.refusals.specs.declared.Refusal.{Refusal}
use Rattle.refusals.specs.declared.Refusal.TheVariants.{NoPairingOffered}
use Rattle.refusals.specs.Numbers.{answered}
use Rattle.refusals.proofs.Numbers.{number_some, answered_refused}
use Rattle.sheet.specs.declared.Parts.{Parts}
use Rattle.sheet.specs.Format.{joints}
use Rattle.sheet.specs.Refusals.{sheet_fault}
use Rattle.sheet.specs.Square.{square_of}
use Rattle.sheet.specs.Readings.{reading_of}
use Rattle.sheet.proofs.ReadAs.{ReadAs, read_refused}
use Rattle.matching.specs.Matchings.{is_matching}
use Rattle.blocking.specs.Blocking.{blocking_pair}
use Rattle.blocking.specs.Answers.{offer_of}
use Rattle.offered.specs.Checks.{check_faults, check_of}

-- a refused sheet's refusal, or what the offered pairing is worth
pub check_refused : (s m : List ℕ) (r : Refusal) → reading_of s ≡ Err r → Err r ≡ check_of s m
check_refused s m r h =
    let e = read_refused s r h in
    let first : first_fault (check_faults s m) ≡ sheet_fault s = fault_stops (sheet_fault s) _ (λ z. omega (arith, e, z, number_some r)) in
    answered_refused _ (first_fault (check_faults s m)) r (e ∙ sym first)

offer_is : (b : Bool) (o : Option ℕ) → cond b (Ok o) (Err NoPairingOffered) ≡ answered (when (not b) 10) o
offer_is true o = refl
offer_is false o = refl

pub check_accepted : (s m : List ℕ) {answer : Result (Option ℕ) Refusal} → sheet_fault s ≡ 0 → answer ≡ offer_of (joints s) (square_of s) m → answer ≡ check_of s m
unfolding offer_of
check_accepted s m f h =
    let e : first_fault (check_faults s m) ≡ when (not (is_matching (joints s) (square_of s) m)) 10 = fault_passes (sheet_fault s) _ f ∙ last_fault _ in
    rw e (h ∙ offer_is (is_matching (joints s) (square_of s) m) (blocking_pair (joints s) (square_of s) m))

-- .. with its parts and its square as they were read
pub check_read : (s : List ℕ) (parts : Parts) (t : List (List ℕ)) → ReadAs s parts → t ≡ square_of s → (m : List ℕ) {r : Result (Option ℕ) Refusal}
    → r ≡ offer_of parts.joints t m → r ≡ check_of s m
check_read s parts t known is m h = check_accepted s m known.faultless (rw (is, known.n_joints) at h)
