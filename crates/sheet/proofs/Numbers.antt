-- The number that a sheet is refused with: the first of its faults, 1 to 6, 8 or 18.
use mathlib.Core.Path.{◌≡◌, refl, sym, ◌∙◌}
use mathlib.Core.Bool.{Bool}
use mathlib.Core.List.{List, ◌∷◌}
use mathlib.Core.Logic.{◌⊎◌, inl, inr, ◌≢◌}
use Prim.Native.Nat.{ℕ, ◌≤◌}
use native.Mathlib.Omega.{arith}
use lib.Dec.{eqb, ltb}
use lib.ListN.{length, take, drop}
use Rattle.base.specs.Faults.{when, first_fault}
use Rattle.base.proofs.Cases.{case, eq_ne}
use Rattle.base.proofs.Faults.{no_faults, last_fault, when_holds, when_most, first_holds, first_most, none_answered, fault_behind}
use Rattle.refusals.proofs.Numbers.{IsFault, is_fault}
use Rattle.sections.proofs.Numbers.{labels_most, entries_most}
use Rattle.parents.specs.Parents.{extent_fault, parents_fault}
use Rattle.parents.specs.Claims.{IsSection}
use Rattle.parents.proofs.ThirdLaws.{extent_holds, parents_holds}
use Rattle.parents.proofs.SectionRule.{section_rule}
use Rattle.sheet.specs.Format.{joints, labels_part, rank_count, rank_start, rankings_part, rank_end, third}
use Rattle.sheet.specs.Refusals.{sheet_faults, sheet_fault}
use Rattle.sheet.specs.Claims.{OfSheet, SheetNumbers, ParentsRefused}
use Rattle.sheet.proofs.FaultLists.{split_faults}

-- none, or a number of a sheet's
abbrev Number : ℕ → Type 0
Number k = (k ≡ 0) ⊎ OfSheet k

up_to_six : (k : ℕ) → k ≤ 6 → Number k
up_to_six k l = case (eq_ne k 0) inl (λ ne. inr (inl (omega arith, l)))

number_when : (b : Bool) (k : ℕ) → Number k → Number (when b k)
number_when b k h = when_holds Number b k (inl refl) h

pub sheet_numbers : SheetNumbers
unfolding sheet_fault sheet_faults
sheet_numbers s =
    let one = up_to_six 1 (omega arith) in
    first_holds Number _ _ (number_when (eqb (length s) 0) 1 one)
    (first_holds Number _ _ (number_when (ltb 128 (joints s)) 2 (up_to_six 2 (omega arith)))
    (first_holds Number _ _ (up_to_six _ (omega (arith, labels_most (joints s) (labels_part s))))
    (first_holds Number _ _ (number_when (ltb (length s) (rank_start s)) 1 one)
    (first_holds Number _ _ (number_when (ltb (length s) (rank_end s)) 1 one)
    (first_holds Number _ _ (extent_holds Number (third s) (inl refl) one (inr (inr (inl refl))))
    (first_holds Number _ _ (up_to_six _ (entries_most (rank_count s) (joints s) (rankings_part s)))
    (first_holds Number _ _ (parents_holds Number (joints s) (third s) (inl refl) (inr (inr (inr refl))))
    (rw no_faults (inl refl)))))))))

-- it is some number, and none that the other refusals have
pub of_sheet_some : (k : ℕ) → OfSheet k → 1 ≤ k
of_sheet_some k h = case h (λ l. l.0) (λ o. case o (λ e. omega arith) (λ e. omega arith))

pub not_of_sheet : (k : ℕ) → OfSheet k → 9 ≤ k → k ≤ 17 → ⊥
not_of_sheet k h low high = case h (λ l. omega arith) (λ o. case o (λ e. omega arith) (λ e. omega arith))

pub number_not : (f : ℕ) → (f ≡ 0) ⊎ OfSheet f → (k : ℕ) → 9 ≤ k → k ≤ 17 → f ≢ k
number_not f known k low high e = case known (λ z. omega arith) (λ h. not_of_sheet f h (omega arith) (omega arith))

pub sheet_not : (s : List ℕ) (k : ℕ) → 9 ≤ k → k ≤ 17 → sheet_fault s ≢ k
sheet_not s = number_not (sheet_fault s) (sheet_numbers s)

-- each is a refusal's
pub sheet_is_fault : (s : List ℕ) → IsFault (sheet_fault s)
sheet_is_fault s =
    case (sheet_numbers s) (λ z. is_fault _ (omega arith) (λ e. omega arith))
    (λ o. case o (λ l. is_fault _ (omega arith) (λ e. omega arith))
    (λ p. case p (λ e. is_fault _ (omega arith) (λ f. omega arith)) (λ e. is_fault _ (omega arith) (λ f. omega arith))))

-- the seven that come before 18 are others
early_most : (s : List ℕ) → first_fault (take 7 (sheet_faults s)) ≤ 8
unfolding sheet_faults
early_most s =
    first_most 8 _ _ (when_most (eqb (length s) 0) 1 8 (omega arith))
    (first_most 8 _ _ (when_most (ltb 128 (joints s)) 2 8 (omega arith))
    (first_most 8 _ _ (omega (arith, labels_most (joints s) (labels_part s)))
    (first_most 8 _ _ (when_most (ltb (length s) (rank_start s)) 1 8 (omega arith))
    (first_most 8 _ _ (when_most (ltb (length s) (rank_end s)) 1 8 (omega arith))
    (first_most 8 _ _ (extent_holds (λ k. k ≤ 8) (third s) (omega arith) (omega arith) (omega arith))
    (first_most 8 _ _ (omega (arith, entries_most (rank_count s) (joints s) (rankings_part s))) (rw no_faults (omega arith))))))))

last_is : (s : List ℕ) → first_fault (drop 7 (sheet_faults s)) ≡ parents_fault (joints s) (third s)
unfolding sheet_faults
last_is s = last_fault _

-- where they are none, a third section that is none of n joints' is 18
bad_third : (s : List ℕ) → first_fault (take 7 (sheet_faults s)) ≡ 0 → (IsSection (joints s) (third s) → ⊥) → parents_fault (joints s) (third s) ≡ 18
unfolding sheet_faults
bad_third s none other =
    let extent : extent_fault (third s) ≡ 0 = (none_answered (take 7 (sheet_faults s))).0 none 5 in
    let or : (parents_fault (joints s) (third s) ≡ 0) ⊎ (parents_fault (joints s) (third s) ≡ 18)
    = parents_holds (λ k. (k ≡ 0) ⊎ (k ≡ 18)) (joints s) (third s) (inl refl) (inr refl) in
    case or (λ z. absurd (other ((section_rule (joints s) (third s)).0 (extent, z)))) (λ e. e)

pub parents_refused : ParentsRefused
unfolding sheet_fault
parents_refused s =
    let parted : sheet_fault s ≡ first_fault (first_fault (take 7 (sheet_faults s)) ∷ drop 7 (sheet_faults s)) = split_faults 7 (sheet_faults s) in
    let behind = fault_behind (first_fault (take 7 (sheet_faults s))) (drop 7 (sheet_faults s)) 18 (λ e. omega (arith, early_most s)) in (
      λ h.
          let r = behind.0 (sym parted ∙ h) in
          (r.0, λ section. let z = ((section_rule (joints s) (third s)).1 section).1 in omega (arith, last_is s, r.1, z)),
      λ h. parted ∙ behind.1 (h.0, last_is s ∙ bad_third s h.0 h.1),
    )
