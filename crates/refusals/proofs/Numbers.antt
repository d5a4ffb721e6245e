-- Laws of the refusals' numbers.
use Rattle.std.proofs.Common.{◌≡◌, ◌≢◌, ℕ, zero, suc, ◌+◌, ◌≤◌, ◌<◌, ◌⊎◌, ◌↔◌, inl, inr, refl, sym, ap, ◌∙◌, arith, rules}
use Rattle.std.proofs.Common.{List, [], ◌∷◌, Option, Some, None, Ok, Err, get_or}
use Rattle.base.proofs.Cases.{case}
use Rattle.refusals.specs.Numbers.{number_of, by_number, refusal_of, unless, answered, fault_of, fault_in, RefusedAs}
use Rattle.refusals.specs.Claims.{NumberedOnce}
use Rattle.refusals.specs.declared.Refusal.{Refusal}
use Rattle.refusals.specs.declared.Refusal.TheVariants.{
  SheetCutShort,
  TooManyJoints,
  BadLabel,
  NoSuchJoint,
  BadBand,
  EntryNotAfter,
  BytesAfterSheet,
  OutTooShort,
  NoPairingOffered,
  ChoiceDoesNotWait,
  ChoiceHasNoList,
  ChoiceLeftOver,
  BadRecord,
  NoSuchMark,
  BadTariff,
  RebateTooHigh,
  BadParents,
  BadHierarchy,
  BadName,
}

pub number_some : (r : Refusal) → 1 ≤ number_of r
number_some SheetCutShort = omega arith
number_some TooManyJoints = omega arith
number_some BadLabel = omega arith
number_some NoSuchJoint = omega arith
number_some BadBand = omega arith
number_some EntryNotAfter = omega arith
number_some BytesAfterSheet = omega arith
number_some OutTooShort = omega arith
number_some NoPairingOffered = omega arith
number_some ChoiceDoesNotWait = omega arith
number_some ChoiceHasNoList = omega arith
number_some ChoiceLeftOver = omega arith
number_some BadRecord = omega arith
number_some NoSuchMark = omega arith
number_some BadTariff = omega arith
number_some RebateTooHigh = omega arith
number_some BadParents = omega arith
number_some BadHierarchy = omega arith
number_some BadName = omega arith

-- the refusal with a refusal's number is that one; and what has a number k is the one with it
pub refusal_back : (r : Refusal) → refusal_of (number_of r) ≡ Some r
refusal_back SheetCutShort = refl
refusal_back TooManyJoints = refl
refusal_back BadLabel = refl
refusal_back NoSuchJoint = refl
refusal_back BadBand = refl
refusal_back EntryNotAfter = refl
refusal_back BytesAfterSheet = refl
refusal_back OutTooShort = refl
refusal_back NoPairingOffered = refl
refusal_back ChoiceDoesNotWait = refl
refusal_back ChoiceHasNoList = refl
refusal_back ChoiceLeftOver = refl
refusal_back BadRecord = refl
refusal_back NoSuchMark = refl
refusal_back BadTariff = refl
refusal_back RebateTooHigh = refl
refusal_back BadParents = refl
refusal_back BadHierarchy = refl
refusal_back BadName = refl

-- no two have one number
some_same : (r s : Refusal) → Some r ≡ Some s → r ≡ s
some_same r s e = search rules

pub numbered_once : NumberedOnce
numbered_once r s e = some_same r s (sym (refusal_back r) ∙ ap refusal_of e ∙ refusal_back s)

-- a table's rows from place i on
abbrev Placed : ℕ → List (Option Refusal) → Type 0
Placed i [] = record {}
Placed i (None ∷ rows) = Placed (suc i) rows
Placed i (Some r ∷ rows) = (number_of r ≡ i) × Placed (suc i) rows

placed_at : (i : ℕ) (rows : List (Option Refusal)) (k : ℕ) {r : Refusal} → Placed i rows → get_or rows k None ≡ Some r → number_of r ≡ i + k
placed_at i [] k p e = search rules
placed_at i (None ∷ rows) zero p e = search rules
placed_at i (None ∷ rows) (suc k) p e = omega (arith, placed_at (suc i) rows k p e)
placed_at i (Some r ∷ rows) zero p e = omega (arith, ap fault_of e, p.0)
placed_at i (Some r ∷ rows) (suc k) p e = omega (arith, placed_at (suc i) rows k p.1 e)

pub refusal_is : (k : ℕ) {r : Refusal} → refusal_of k ≡ Some r → number_of r ≡ k
refusal_is k e = omega (arith, placed_at 0 by_number k (search rules) e)

-- a place of the table without a refusal, from place i on
abbrev Gap : ℕ → Type 0
Gap k = (k ≡ 0) ⊎ ((k ≡ 7) ⊎ (20 < k))

abbrev Gapped : ℕ → List (Option Refusal) → Type 0
Gapped i [] = 20 < i
Gapped i (None ∷ rows) = Gap i × Gapped (suc i) rows
Gapped i (Some r ∷ rows) = Gapped (suc i) rows

gap_at : (i : ℕ) (rows : List (Option Refusal)) (k : ℕ) → Gapped i rows → get_or rows k None ≡ None → Gap (i + k)
gap_at i [] k p e = inr (inr (omega arith))
gap_at i (None ∷ rows) zero p e = case p.0 (λ z. inl (omega arith)) (λ o. case o (λ z. inr (inl (omega arith))) (λ l. inr (inr (omega arith))))
gap_at i (None ∷ rows) (suc k) p e =
    case (gap_at (suc i) rows k p.1 e) (λ z. inl (omega arith)) (λ o. case o (λ z. inr (inl (omega arith))) (λ l. inr (inr (omega arith))))
gap_at i (Some r ∷ rows) zero p e = search rules
gap_at i (Some r ∷ rows) (suc k) p e =
    case (gap_at (suc i) rows k p e) (λ z. inl (omega arith)) (λ o. case o (λ z. inr (inl (omega arith))) (λ l. inr (inr (omega arith))))

-- WHAT IS ANSWERED, for a fault that is 0 or the number of a refusal
abbrev pub IsFault : ℕ → Type 0
IsFault k = (k ≡ 0) ⊎ ((r : Refusal) × (number_of r ≡ k))

pub is_fault : (k : ℕ) → k ≤ 20 → k ≢ 7 → IsFault k
is_fault k most other = go (refusal_of k) refl
  where
    go : (f : Option Refusal) → refusal_of k ≡ f → IsFault k
    go None e =
        case (gap_at 0 by_number k (inl refl, (inr (inl refl), omega arith)) e)
        (λ z. inl (omega arith))
        (λ o. case o (λ z. absurd (other (omega arith))) (λ l. absurd (omega arith)))
    go (Some r) e = inr (r, refusal_is k e)

pub fault_back : {k : ℕ} → IsFault k → fault_of (refusal_of k) ≡ k
fault_back {k} h = case h (λ z. rw z refl) (λ s. rw (← s.1, refusal_back s.0) refl)

module _ {A : Type 0} (value : A) (k : ℕ) where
  -- no fault: the value
  pub answered_none : k ≡ 0 → Ok value ≡ answered k value
  answered_none e = rw e refl

  -- a refusal's number: that refusal
  pub answered_refused : (r : Refusal) → number_of r ≡ k → Err r ≡ answered k value
  answered_refused r e = rw (← e, refusal_back r) refl

-- and back
unless_value : {A : Type 0} (value other : A) (f : Option Refusal) → unless f value ≡ Ok other → (f ≡ None) × (value ≡ other)
unless_value value other None e = (refl, search rules)
unless_value value other (Some r) e = search rules

unless_refusal : {A : Type 0} (value : A) (f : Option Refusal) (r : Refusal) → unless f value ≡ Err r → f ≡ Some r
unless_refusal value None r e = search rules
unless_refusal value (Some s) r e = search rules

fault_unless : {A : Type 0} (value : A) (f : Option Refusal) → fault_in (unless f value) ≡ fault_of f
fault_unless value None = refl
fault_unless value (Some r) = refl

module _ {A : Type 0} (value : A) (k : ℕ) where
  pub value_answered : (other : A) → IsFault k → answered k value ≡ Ok other → (k ≡ 0) × (value ≡ other)
  value_answered other h e =
      let r : (refusal_of k ≡ None) × (value ≡ other) = unless_value value other (refusal_of k) e in
      (sym (fault_back h) ∙ ap fault_of r.0, r.1)

  pub refusal_answered : (r : Refusal) → answered k value ≡ Err r → number_of r ≡ k
  refusal_answered r e = refusal_is k (unless_refusal value (refusal_of k) r e)

  pub some_answered : (r : Refusal) → answered k value ≡ Err r → k ≢ 0
  some_answered r e z = omega (arith, refusal_answered r e, number_some r)

  pub fault_answered : IsFault k → fault_in (answered k value) ≡ k
  fault_answered h = fault_unless value (refusal_of k) ∙ fault_back h

  -- it is answered in place of any other value too
  pub refused_alike : {B : Type 0} (other : B) (r : Refusal) → answered k value ≡ Err r → Err r ≡ answered k other
  refused_alike other r e = answered_refused other k r (refusal_answered r e)

  -- exactly the refusal of the fault is answered
  pub refused_as : IsFault k → (j : ℕ) → RefusedAs (answered k value) j ↔ ((k ≡ j) × (1 ≤ j))
  refused_as h j = (
    λ told. let e = refusal_answered told.0 told.1 in (sym e ∙ told.2, omega (arith, number_some told.0, told.2)),
    λ e. case h
        (λ z. absurd (omega (arith, z, e.0, e.1)))
        (λ s. (s.0, sym (answered_refused value k s.0 s.1), s.1 ∙ e.0)),
  )

  -- .. and exactly a value where there is no fault
  pub value_as : IsFault k → (other : A) → answered k value ≡ Ok other ↔ ((k ≡ 0) × (value ≡ other))
  value_as h other = (value_answered other h, λ e. sym (answered_none value k e.0) ∙ ap Ok e.1)
