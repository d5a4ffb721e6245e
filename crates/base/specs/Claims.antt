-- What a list of refusals answers: the first that is there.
use Rattle.std.specs.Prelude.{◌≡◌, ◌↔◌, List, ℕ, ◌≤◌, ◌<◌, length, get_or}
use Rattle.base.specs.Faults.{first_fault}

-- k is the first of the faults that is not 0
pub record First (k : ℕ) (faults : List ℕ) : Type 0 where
  pub fault : 1 ≤ k
  pub place : ℕ
  pub inside : place < length faults
  pub stands : get_or faults place 0 ≡ k
  pub earlier : (i : ℕ) → i < place → get_or faults i 0 ≡ 0

-- a number is answered exactly if it is the first, and none exactly if there is none
abbrev pub FirstAnswered : Type 0
FirstAnswered = (faults : List ℕ) (k : ℕ) → ((first_fault faults ≡ k) × (1 ≤ k)) ↔ First k faults

abbrev pub NoneAnswered : Type 0
NoneAnswered = (faults : List ℕ) → first_fault faults ≡ 0 ↔ ((i : ℕ) → get_or faults i 0 ≡ 0)
