-- What check's answers mean, for every sheet s and offered pairing m.
use mathlib.Core.Path.{◌≡◌, refl, sym, ◌∙◌}
use mathlib.Core.Bool.{Bool, true, false, not}
use mathlib.Core.List.{List}
use mathlib.Core.Logic.{◌⊎◌, inl, inr, ◌↔◌}
use Rattle.std.proofs.Common.{Option, Some, None, Ok}
use Prim.Native.Nat.{ℕ, ◌≤◌}
use native.Mathlib.Omega.{arith}
use lib.ListN.{length}
use Rattle.base.specs.Claims.{First}
use Rattle.base.specs.Faults.{when, first_fault}
use Rattle.base.proofs.Cases.{case}
use Rattle.base.proofs.Faults.{first_answered, first_none, first_holds, fault_here, fault_behind, fault_passes, last_fault, unless_none, unless_is, unless_other}
use Rattle.base.proofs.Tests.{never, not_so}
use Rattle.sheet.specs.Format.{joints}
use Rattle.sheet.specs.Refusals.{sheet_fault}
use Rattle.sheet.specs.Square.{at, square_of}
use Rattle.sheet.proofs.PromiseKept.{accepted_square}
use Rattle.refusals.specs.Numbers.{RefusedAs}
use Rattle.refusals.proofs.Numbers.{IsFault, is_fault, refused_as, value_as}
use Rattle.matching.specs.Matchings.{partner, is_matching}
use Rattle.blocking.specs.Blocking.{blocking_pair}
use Rattle.matching.specs.Plain.{Matching}
use Rattle.blocking.specs.Plain.{SuperStable, LowestBlocking}
use Rattle.matching.proofs.MatchingTest.{is_matching_means}
use Rattle.blocking.proofs.LowestPair.{blocking_pair_lowest}
use Rattle.blocking.proofs.SuperStableTest.{is_super_stable_means, super_stable_parts}
use Rattle.offered.specs.Checks.{check_faults, check_of}
use Rattle.promises.specs.Claims.{CheckKeeps}
use Rattle.sheet.specs.Claims.{OfSheet}
use Rattle.sheet.proofs.Numbers.{of_sheet_some, not_of_sheet, sheet_not, sheet_numbers, sheet_is_fault}

-- 10 or nothing
abbrev ten : Bool → ℕ
ten b = when (not b) 10

-- a refusal's number
abbrev Number : ℕ → Type 0
Number k = 1 ≤ k → OfSheet k ⊎ (k ≡ 10)

ten_number : (b : Bool) → Number (ten b)
ten_number true one = absurd (omega arith)
ten_number false one = inr refl

ten_is_fault : (b : Bool) → IsFault (ten b)
ten_is_fault true = is_fault 0 (omega arith) (λ e. omega arith)
ten_is_fault false = is_fault 10 (omega arith) (λ e. omega arith)

module _ (s m : List ℕ) where
  abbrev n : ℕ
  n = joints s

  abbrev t : List (List ℕ)
  t = square_of s

  abbrev pair : Option ℕ
  pair = blocking_pair n t m

  is : IsFault (first_fault (check_faults s m))
  is = first_holds IsFault _ _ (sheet_is_fault s) (rw (last_fault (ten (is_matching n t m))) (ten_is_fault (is_matching n t m)))

  -- no refusal: an accepted sheet and a matching
  passes : first_fault (check_faults s m) ≡ 0 ↔ ((sheet_fault s ≡ 0) × (is_matching n t m ≡ true))
  passes = (
    λ h.
        let (f, rest) = first_none (sheet_fault s) _ h in
        (f, unless_none _ 9 (sym (last_fault _) ∙ rest)),
    λ h. fault_passes _ _ h.0 ∙ last_fault _ ∙ rw h.1 refl,
  )

  first : (k : ℕ) → RefusedAs (check_of s m) k ↔ First k (check_faults s m)
  first k =
      let a = refused_as pair (first_fault (check_faults s m)) is k in
      let b = first_answered (check_faults s m) k in
      (λ h. b.0 (a.0 h), λ h. a.1 (b.1 h))

  numbers : (k : ℕ) → RefusedAs (check_of s m) k → OfSheet k ⊎ (k ≡ 10)
  numbers k h =
      let (e, one) = (refused_as pair (first_fault (check_faults s m)) is k).0 h in
      let any : Number k = rw (← e) (first_holds Number _ _ own (rw (last_fault (ten (is_matching n t m))) (ten_number (is_matching n t m)))) in
      any one
    where
      own : Number (sheet_fault s)
      own one = case (sheet_numbers s) (λ z. absurd (omega arith)) inl

  by_sheet : (k : ℕ) → OfSheet k → RefusedAs (check_of s m) k ↔ (sheet_fault s ≡ k)
  by_sheet k known =
      let one = of_sheet_some k known in
      let other = unless_other (is_matching n t m) 10 k one (λ e. not_of_sheet k known (omega arith) (omega arith)) in
      let a = refused_as pair (first_fault (check_faults s m)) is k in
      let own = fault_here (sheet_fault s) _ k one (λ e. other (sym (last_fault _) ∙ e)) in
      (λ h. own.0 (a.0 h).0, λ e. a.1 (own.1 e, one))

  by_ten : RefusedAs (check_of s m) 10 ↔ ((sheet_fault s ≡ 0) × ((length m ≡ n) × Matching n (at t) (partner m) → ⊥))
  by_ten =
      let a = refused_as pair (first_fault (check_faults s m)) is 10 in
      let r = fault_behind (sheet_fault s) _ 10 (sheet_not s 10 (omega arith) (omega arith)) in (
        λ h.
            let w = r.0 (a.0 h).0 in
            (w.0, λ x. never _ ((is_matching_means n t m).1 x) (unless_is _ 9 (sym (last_fault _) ∙ w.1))),
        λ h.
            let none : is_matching n t m ≡ false = not_so (is_matching n t m) (λ q. h.1 ((is_matching_means n t m).0 q)) in
            a.1 (r.1 (h.0, last_fault _ ∙ rw none refl), omega arith),
      )

  holds : check_of s m ≡ Ok None ↔ (sheet_fault s ≡ 0) × (length m ≡ n) × SuperStable n (at t) (partner m)
  holds =
      let a = value_as pair (first_fault (check_faults s m)) is None in (
        λ h.
            let (z, o) = a.0 h in
            let (f, w) = passes.0 z in
            let v = (is_super_stable_means n t m (accepted_square s f)).0 ((super_stable_parts n t m).1 (w, o)) in
            (f, v.0, v.1),
        λ h.
            let w = (super_stable_parts n t m).0 ((is_super_stable_means n t m (accepted_square s h.0)).1 (h.1, h.2)) in
            a.1 (passes.1 (h.0, w.0), w.1),
      )

  blocked : (k : ℕ) → check_of s m ≡ Ok (Some k)
      ↔ (sheet_fault s ≡ 0) × ((length m ≡ n) × Matching n (at t) (partner m)) × LowestBlocking n (at t) (partner m) k
  blocked k =
      let a = value_as pair (first_fault (check_faults s m)) is (Some k) in (
        λ h.
            let (z, o) = a.0 h in
            let (f, w) = passes.0 z in
            (f, (is_matching_means n t m).0 w, (blocking_pair_lowest n t m k).0 o),
        λ h. a.1 (passes.1 (h.0, (is_matching_means n t m).1 h.1), (blocking_pair_lowest n t m k).1 h.2),
      )

  pub check_keeps : CheckKeeps s m
  check_keeps = record { check_first = first; check_numbers = numbers; check_sheet = by_sheet; check_ten = by_ten; check_holds = holds; check_blocked = blocked }
