-- The refusals' numbers, by which documents, C and printed texts know them.
use Rattle.std.specs.Prelude.{◌≡◌, List, [], ◌∷◌, ℕ, Option, Some, None, Result, Ok, Err, get_or}
use Rattle.refusals.specs.declared.Refusal.{Refusal}
use Rattle.refusals.specs.declared.Refusal.TheVariants.{
  SheetCutShort,
  TooManyJoints,
  BadLabel,
  NoSuchJoint,
  BadBand,
  EntryNotAfter,
  BytesAfterSheet,
  OutTooShort,
  NoPairingOffered,
  ChoiceDoesNotWait,
  ChoiceHasNoList,
  ChoiceLeftOver,
  BadRecord,
  NoSuchMark,
  BadTariff,
  RebateTooHigh,
  BadParents,
  BadHierarchy,
  BadName,
}

abbrev pub number_of : Refusal → ℕ
number_of SheetCutShort = 1
number_of TooManyJoints = 2
number_of BadLabel = 3
number_of NoSuchJoint = 4
number_of BadBand = 5
number_of EntryNotAfter = 6
number_of BytesAfterSheet = 8
number_of OutTooShort = 9
number_of NoPairingOffered = 10
number_of ChoiceDoesNotWait = 11
number_of ChoiceHasNoList = 12
number_of ChoiceLeftOver = 13
number_of BadRecord = 14
number_of NoSuchMark = 15
number_of BadTariff = 16
number_of RebateTooHigh = 17
number_of BadParents = 18
number_of BadHierarchy = 19
number_of BadName = 20

-- each at the place of its number
abbrev pub by_number : List (Option Refusal)
by_number =
    None
    ∷ Some SheetCutShort
    ∷ Some TooManyJoints
    ∷ Some BadLabel
    ∷ Some NoSuchJoint
    ∷ Some BadBand
    ∷ Some EntryNotAfter
    ∷ None
    ∷ Some BytesAfterSheet
    ∷ Some OutTooShort
    ∷ Some NoPairingOffered
    ∷ Some ChoiceDoesNotWait
    ∷ Some ChoiceHasNoList
    ∷ Some ChoiceLeftOver
    ∷ Some BadRecord
    ∷ Some NoSuchMark
    ∷ Some BadTariff
    ∷ Some RebateTooHigh
    ∷ Some BadParents
    ∷ Some BadHierarchy
    ∷ Some BadName
    ∷ []

-- the refusal with a number, if there is one
abbrev pub refusal_of : ℕ → Option Refusal
refusal_of number = get_or by_number number None

-- A FAULT is the number of a refusal, 0 for none. What is answered for a fault: a value, or the refusal
abbrev pub unless : {A : Type 0} → Option Refusal → A → Result A Refusal
unless None value = Ok value
unless (Some refusal) value = Err refusal

abbrev pub answered : {A : Type 0} → ℕ → A → Result A Refusal
answered fault value = unless (refusal_of fault) value

-- the number that is refused, 0 where nothing is: beside a value, and in place of one
abbrev pub fault_of : Option Refusal → ℕ
fault_of None = 0
fault_of (Some refusal) = number_of refusal

abbrev pub fault_in : {A : Type 0} → Result A Refusal → ℕ
fault_in (Ok value) = 0
fault_in (Err refusal) = number_of refusal

-- an answer is the refusal with a number
abbrev pub RefusedAs : {A : Type 0} → Result A Refusal → ℕ → Type 0
RefusedAs answer k = (r : Refusal) × (answer ≡ Err r) × (number_of r ≡ k)
