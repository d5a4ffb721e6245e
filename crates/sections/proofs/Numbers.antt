-- The numbers of the sections' refusals.
use mathlib.Core.List.{List, []}
use Prim.Native.Nat.{ℕ, ◌*◌, ◌≤◌}
use native.Mathlib.Omega.{arith}
use lib.Dec.{ltb}
use lib.ListN.{length}
use Rattle.base.specs.Below.{any_below}
use Rattle.base.specs.Faults.{first_fault}
use Rattle.base.proofs.Faults.{when_most, first_most, below_most}
use Rattle.refusals.proofs.Numbers.{IsFault, is_fault}
use Rattle.sections.specs.Labels.{label_width, label_bad, labels_fault}
use Rattle.sections.specs.Entries.{entry_in, outside, no_band, misplaced, entry_fault, entries_fault}

none_most : (m : ℕ) → first_fault [] ≤ m
unfolding first_fault
none_most m = omega arith

pub labels_most : (n : ℕ) (part : List ℕ) → labels_fault n part ≤ 3
unfolding labels_fault
labels_most n part =
    first_most 3 _ _ (when_most (ltb (length part) (label_width * n)) 1 3 (omega arith))
    (first_most 3 _ _ (when_most (any_below n (label_bad part)) 3 3 (omega arith)) (none_most 3))

entry_most : (n : ℕ) (part : List ℕ) (j : ℕ) → entry_fault n part j ≤ 6
unfolding entry_fault
entry_most n part j =
    first_most 6 _ _ (when_most (outside n (entry_in part j)) 4 6 (omega arith))
    (first_most 6 _ _ (when_most (no_band (entry_in part j)) 5 6 (omega arith))
    (first_most 6 _ _ (when_most (misplaced part j) 6 6 (omega arith)) (none_most 6)))

pub entries_most : (m n : ℕ) (part : List ℕ) → entries_fault m n part ≤ 6
entries_most m n part = below_most 6 m (entry_fault n part) (entry_most n part)

-- each is a refusal's
pub labels_is_fault : (n : ℕ) (part : List ℕ) → IsFault (labels_fault n part)
labels_is_fault n part = let l = labels_most n part in is_fault _ (omega arith) (λ e. omega arith)

pub entry_is_fault : (n : ℕ) (part : List ℕ) (j : ℕ) → IsFault (entry_fault n part j)
entry_is_fault n part j = let l = entry_most n part j in is_fault _ (omega arith) (λ e. omega arith)

pub entries_is_fault : (m n : ℕ) (part : List ℕ) → IsFault (entries_fault m n part)
entries_is_fault m n part = let l = entries_most m n part in is_fault _ (omega arith) (λ e. omega arith)
