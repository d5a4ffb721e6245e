-- Refusals. A fault is the number of a refusal, 0 for none.
use Rattle.std.specs.Prelude.{Bool, cond, List, [], ◌∷◌, ℕ, zero, suc}

-- the number if the test holds
abbrev pub when : Bool → ℕ → ℕ
when test number = cond test number 0

-- the first fault of a list
unfoldable pub first_fault : List ℕ → ℕ
first_fault [] = 0
first_fault (zero ∷ later) = first_fault later
first_fault (suc k ∷ later) = suc k

-- the first fault of those of the numbers below n, from 0 on
unfoldable pub fault_below : ℕ → (ℕ → ℕ) → ℕ
fault_below zero fault = 0
fault_below (suc j) fault = first_fault (fault_below j fault ∷ (fault j ∷ []))
