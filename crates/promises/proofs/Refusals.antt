-- A call that answers with the first of its refusals refuses as promised, number by number.
use mathlib.Core.Path.{◌≡◌, refl, sym, ◌∙◌}
use mathlib.Core.List.{List, [], ◌∷◌}
use mathlib.Core.Logic.{◌⊎◌, inl, inr, ◌≢◌, ◌↔◌}
use Prim.Native.Nat.{ℕ, ◌≤◌, ◌<◌}
use native.Mathlib.Omega.{arith}
use lib.Dec.{ltb}
use borrow.Author.Tests.{lt-ltb, le-ltb, ltb-false}
use Rattle.base.specs.Faults.{when, first_fault}
use Rattle.base.proofs.Cases.{case}
use Rattle.base.proofs.Faults.{first_none, first_holds, fault_here, fault_behind, fault_passes, last_fault, when_none, when_less}
use Rattle.sheet.specs.Claims.{OfSheet}
use Rattle.sheet.proofs.Numbers.{of_sheet_some, not_of_sheet, number_not}
use Rattle.promises.specs.Claims.{Refuses}

-- nothing is refused, or 11 to 15
abbrev pub OfChoice : ℕ → Type 0
OfChoice r = (r ≡ 0) ⊎ ((11 ≤ r) × (r ≤ 15))

-- The sheet's refusal f, 9 for a buffer of `room` bytes where `need` are due, and that of the choices c.
abbrev pub call_faults : ℕ → ℕ → ℕ → ℕ → List ℕ
call_faults f room need c = f ∷ (when (ltb room need) 9 ∷ (c ∷ []))

pub no_fault : (f room need c : ℕ) → first_fault (call_faults f room need c) ≡ 0 → (f ≡ 0) × (need ≤ room) × (c ≡ 0)
no_fault f room need c h =
    let (e, rest) = first_none f _ h in
    let (nine, last) = first_none (when (ltb room need) 9) _ rest in
    (e, ltb-false room need (when_none _ _ nine), sym (last_fault c) ∙ last)

pub all_pass : (f room need c : ℕ) → f ≡ 0 → need ≤ room → c ≡ 0 → first_fault (call_faults f room need c) ≡ 0
all_pass f room need c e h z = fault_passes f _ e ∙ fault_passes _ _ (rw (le-ltb room need h) refl) ∙ last_fault c ∙ z

-- a refusal's number
abbrev Number : ℕ → Type 0
Number k = 1 ≤ k → OfSheet k ⊎ ((k ≡ 9) ⊎ ((11 ≤ k) × (k ≤ 15)))

module _ (f room need c : ℕ) (known : (f ≡ 0) ⊎ OfSheet f) (choice : OfChoice c) where
  abbrev faults : List ℕ
  faults = call_faults f room need c

  abbrev nine : ℕ
  nine = when (ltb room need) 9

  not_nine : (k : ℕ) → 1 ≤ k → k ≢ 9 → nine ≢ k
  not_nine k some ne e = case (when_less room need 9) (λ h. omega (arith, h.0)) (λ h. ne (sym e ∙ h.0))

  -- the choices' own is 11 to 15, or none
  not_choice : (k : ℕ) → 1 ≤ k → (11 ≤ k → k ≤ 15 → ⊥) → first_fault (c ∷ []) ≢ k
  not_choice k some other e =
      let own = sym (last_fault c) ∙ e in
      case choice (λ h. omega arith) (λ h. other (omega arith) (omega arith))

  by_sheet : (k : ℕ) → OfSheet k → first_fault faults ≡ k ↔ (f ≡ k)
  by_sheet k own =
      let some = of_sheet_some k own in
      let buffer = not_nine k some (λ e. not_of_sheet k own (omega arith) (omega arith)) in
      let choice = not_choice k some (λ low high. not_of_sheet k own (omega arith) (omega arith)) in
      fault_here f (nine ∷ c ∷ []) k some (first_holds (λ i. i ≢ k) nine (c ∷ []) buffer choice)

  by_buffer : first_fault faults ≡ 9 ↔ ((f ≡ 0) × (room < need))
  by_buffer =
      let sheet = fault_behind f (nine ∷ c ∷ []) 9 (number_not f known 9 (omega arith) (omega arith)) in
      let own = fault_here nine (c ∷ []) 9 (omega arith) (not_choice 9 (omega arith) (λ low high. omega arith)) in (
        λ h. let r = sheet.0 h in let e = own.0 r.1 in (r.0, case (when_less room need 9) (λ g. absurd (omega (arith, g.0))) (λ g. g.1)),
        λ h. sheet.1 (h.0, own.1 (rw (lt-ltb room need h.1) refl)),
      )

  -- the buffer will do, and it is the number of the sheet and the choices alone
  by_choice : (k : ℕ) → 11 ≤ k → k ≤ 15 → first_fault faults ≡ k ↔ ((need ≤ room) × (first_fault (f ∷ (c ∷ [])) ≡ k))
  by_choice k big low =
      let other = number_not f known k (omega arith) (omega arith) in
      let sheet = fault_behind f (nine ∷ c ∷ []) k other in
      let buffer = fault_behind nine (c ∷ []) k (not_nine k (omega arith) (λ e. omega arith)) in
      let alone = fault_behind f (c ∷ []) k other in (
        λ h. let r = sheet.0 h in let l = buffer.0 r.1 in (ltb-false room need (when_none _ _ l.0), alone.1 (r.0, l.1)),
        λ h. let r = alone.0 h.1 in sheet.1 (r.0, buffer.1 (rw (le-ltb room need h.0) refl, r.1)),
      )

  numbers : Number (first_fault faults)
  numbers =
      first_holds Number f _ (λ some. case known (λ z. absurd (omega arith)) (λ own. inl own))
      (first_holds Number nine _ (λ some. case (when_less room need 9) (λ h. absurd (omega (arith, h.0))) (λ h. inr (inl h.0)))
      (rw (last_fault c) (λ some. case choice (λ h. absurd (omega arith)) (λ h. inr (inr h)))))

  pub refuses : (Refused : ℕ → Type 0) → ((k : ℕ) → Refused k ↔ ((first_fault faults ≡ k) × (1 ≤ k))) → Refuses f (first_fault (f ∷ (c ∷ []))) need room Refused
  refuses Refused says = record {
    numbers = λ k h. let r = (says k).0 h in (let n : Number k = rw r.0 at numbers in n r.1);
    by_sheet = λ k own. (λ r. (by_sheet k own).0 ((says k).0 r).0, λ e. (says k).1 ((by_sheet k own).1 e, of_sheet_some k own));
    by_buffer = (λ r. by_buffer.0 ((says 9).0 r).0, λ e. (says 9).1 (by_buffer.1 e, omega arith));
    by_choice = λ k big low. (λ r. (by_choice k big low).0 ((says k).0 r).0, λ e. (says k).1 ((by_choice k big low).1 e, omega arith));
  }
