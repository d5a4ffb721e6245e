-- Answers by their parts, and what an answer tells of them.
use Rattle.std.proofs.Common.{◌≡◌, ◌≢◌, ◌↔◌, ℕ, zero, suc, ◌≤◌, List, [], ◌∷◌, Bool, Option, Some, None, Result, Ok, Err, refl, sym, ap, ◌∙◌}
use mathlib.Core.Logic.{inl}
use native.Mathlib.Omega.{arith}
use Rattle.base.specs.Faults.{when, first_fault}
use Rattle.base.proofs.Cases.{case}
use Rattle.base.proofs.Faults.{first_holds, when_holds, last_fault}
use Rattle.refusals.specs.declared.Refusal.{Refusal}
use Rattle.refusals.specs.Numbers.{refusal_of, fault_in}
use Rattle.refusals.proofs.Numbers.{IsFault, is_fault, value_answered, refusal_back}
use Rattle.writing.specs.Written.{over}
use Rattle.roommates.specs.Lists.{Square}
use Rattle.roommates.specs.declared.Stage.{Stage}
use Rattle.roommates.specs.declared.Stage.TheVariants.{Proposing, Cutting, NoneOne, NoneTwo, Paired}
use Rattle.records.specs.Records.{worked_by}
use Rattle.records.proofs.RecordRefusals.{refusal_number}
use Rattle.calls.specs.declared.Phase.{Phase}
use Rattle.calls.specs.declared.Phase.TheVariants as P
use Rattle.calls.specs.declared.End.TheVariants as E
use Rattle.calls.specs.Calls.{ended_as, settled_as, listed_as, result_over, left_as}

-- THE FAULTS of a call are refusals': the choices' own, and behind the sheet's and the buffer's
pub choice_is_fault : (whole : Bool) (n : ℕ) (t : Square) (cs : List ℕ) → IsFault (worked_by whole n t cs).refusal
choice_is_fault whole n t cs =
    case (refusal_number whole n t cs) inl (λ l. is_fault _ (omega (arith, l.1)) (λ e. omega (arith, l.0, e)))

pub faults_are : (f : ℕ) (b : Bool) (r : ℕ) → IsFault f → IsFault r → IsFault (first_fault (f ∷ (when b 9 ∷ (r ∷ []))))
faults_are f b r hf hr =
    first_holds IsFault _ _ hf
    (first_holds IsFault _ _ (when_holds IsFault b 9 (inl refl) (is_fault 9 (omega arith) (λ e. omega arith))) (rw (last_fault r) hr))

-- A REFUSAL writes nothing.
pub unwritten : (f : ℕ) (v : Stage) (bytes out : List ℕ) → 1 ≤ f → left_as f v bytes out ≡ out
unwritten zero v bytes out h = absurd (omega arith)
unwritten (suc f) v bytes out h = refl

-- the refusal that an answer has, if it has one
pub refusal_in : {A : Type 0} (answer : Result A Refusal) (r : Option Refusal) → ((a : A) → answer ≡ Ok a → r ≡ None) → ((e : Refusal) → answer ≡ Err e → r ≡ Some e)
    → r ≡ refusal_of (fault_in answer)
refusal_in (Ok a) r none some = none a refl
refusal_in (Err e) r none some = some e refl ∙ sym (refusal_back e)

-- A RESULT comes of no refusal and the verdict `Paired`; none of a verdict that is another.
pub settled_paired : (v : Stage) (c k : ℕ) → ended_as v c ≡ E.Paired k → (v ≡ Paired) × (c ≡ k)
settled_paired Proposing c k h = cc
settled_paired Cutting c k h = cc
settled_paired NoneOne c k h = cc
settled_paired NoneTwo c k h = cc
settled_paired Paired c k h = let e : c ≡ k = cc in (refl, e)

pub settled_none : (v : Stage) (c : ℕ) (p : Phase) → ended_as v c ≡ E.None p → v ≢ Paired
settled_none v c p h e = let i : E.Paired c ≡ E.None p = ap (λ (x : Stage). ended_as x c) (sym e) ∙ h in cc

pub settled_none_one : (v : Stage) (c : ℕ) → ended_as v c ≡ E.None P.One ↔ (v ≡ NoneOne)
settled_none_one Proposing c = (λ h. cc, λ e. ap (λ (x : Stage). ended_as x c) e)
settled_none_one Cutting c = (λ h. cc, λ e. ap (λ (x : Stage). ended_as x c) e)
settled_none_one NoneOne c = (λ h. refl, λ e. refl)
settled_none_one NoneTwo c = (λ h. cc, λ e. ap (λ (x : Stage). ended_as x c) e)
settled_none_one Paired c = (λ h. cc, λ e. ap (λ (x : Stage). ended_as x c) e)

pub shortened_lists : (v : Stage) (c k : ℕ) → listed_as v c ≡ Some k → (v ≡ Paired) × (c ≡ k)
shortened_lists Proposing c k h = cc
shortened_lists Cutting c k h = cc
shortened_lists NoneOne c k h = cc
shortened_lists NoneTwo c k h = cc
shortened_lists Paired c k h = let e : c ≡ k = cc in (refl, e)

-- a pairing is written
pub pairing_written : (f : ℕ) (v : Stage) (c : ℕ) (bytes out : List ℕ) {k : ℕ} → IsFault f → settled_as f v c ≡ Ok (E.Paired k) → left_as f v bytes out ≡ over bytes out
pairing_written f v c bytes out {k} is h =
    let (none, e) = value_answered (ended_as v c) f (E.Paired k) is h in
    rw (none, (settled_paired v c k e).0) refl

-- without a result nothing is written
pub unpaired_unwritten : (f : ℕ) (v : Stage) (bytes out : List ℕ) → v ≢ Paired → left_as f v bytes out ≡ out
unpaired_unwritten zero Proposing bytes out h = refl
unpaired_unwritten zero Cutting bytes out h = refl
unpaired_unwritten zero NoneOne bytes out h = refl
unpaired_unwritten zero NoneTwo bytes out h = refl
unpaired_unwritten zero Paired bytes out h = absurd (h refl)
unpaired_unwritten (suc f) v bytes out h = refl

-- .. nor are there lists
pub unlisted : (v : Stage) (c : ℕ) (bytes out : List ℕ) → v ≢ Paired → (listed_as v c ≡ None) × (result_over v bytes out ≡ out)
unlisted Proposing c bytes out h = (refl, refl)
unlisted Cutting c bytes out h = (refl, refl)
unlisted NoneOne c bytes out h = (refl, refl)
unlisted NoneTwo c bytes out h = (refl, refl)
unlisted Paired c bytes out h = absurd (h refl)
