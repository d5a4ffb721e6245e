-- Laws of a whole sheet's reading, one for each way that the reader takes.
use mathlib.Core.Path.{◌≡◌, ap, ◌∙◌}
use mathlib.Core.List.{List}
use Rattle.std.proofs.Common.{Ok}
use Prim.Native.Nat.{ℕ, ◌+◌, ◌-◌, ◌*◌, ◌≤◌, ◌<◌}
use native.Mathlib.Nat.{add-zero}
use native.Mathlib.Omega.{arith}
use lib.ListN.{length, get_or, take, drop}
use lib.Seq.{get_or-take, get_or-drop}
use Rattle.std.specs.Int.{w16, from_le_bytes}
use Rattle.base.proofs.Places.{rest_is}
use borrow.Author.Tests.{eq-eqb, ne_eqb, lt-ltb, le-ltb}
use Rattle.base.specs.Faults.{first_fault}
use Rattle.base.proofs.Faults.{fault_stops, fault_passes, last_fault}
use Rattle.sections.specs.Labels.{labels_fault}
use Rattle.sections.specs.Entries.{entries_fault}
use Rattle.parents.specs.Parents.{extent_fault, parents_fault}
use Rattle.refusals.specs.Numbers.{answered}
use Rattle.refusals.proofs.Numbers.{answered_none}
use Rattle.sheet.specs.Format.{joints, labels_start, labels_part, rank_count, rank_start, rankings_part, rank_end, third}
use Rattle.sheet.specs.Refusals.{sheet_faults, sheet_fault, extents_fault}
use Rattle.sheet.specs.Readings.{parts_of}
use Rattle.sheet.proofs.FaultLists.{in_first_part, in_second_part}

-- a count of two bytes, low byte first
pub two_bytes : (s : List ℕ) (k : ℕ) (bytes : List ℕ) (n : ℕ) → bytes ≡ take 2 (take (length s - k) (drop k s)) → n ≡ from_le_bytes w16 bytes
    → n ≡ get_or s k 0 + 256 * get_or s (k + 1) 0
two_bytes s k bytes n is h =
    let low : get_or bytes 0 0 ≡ get_or s k 0 = byte 0 (omega arith) ∙ ap (λ (j : ℕ). get_or s j 0) (add-zero k) in
    omega (arith, h, low, byte 1 (omega arith))
  where
    byte : (i : ℕ) → i < 2 → get_or bytes i 0 ≡ get_or s (k + i) 0
    byte i l =
        ap (λ (b : List ℕ). get_or b i 0) (is ∙ ap (λ (b : List ℕ). take 2 b) (rest_is k s)) ∙ get_or-take 2 (drop k s) i 0 l ∙ get_or-drop k s i 0

-- no fault: the parts, as they are read
pub accepted_as : (s : List ℕ) {f n m k l : ℕ} → n ≡ joints s → m ≡ rank_count s → k ≡ rank_start s → l ≡ rank_end s → f ≡ 0
    → Ok (record { joints = n; entries = m; labels = labels_start; rankings = k; parents = l }) ≡ answered f (parts_of s)
accepted_as s {f} a b c d e = rw (a, b, c, d) (answered_none (parts_of s) f e)

-- EXTENTS, way by way
module _ (s : List ℕ) where
  pub no_joints_lem : length s ≡ 0 → extents_fault s ≡ 1
  unfolding extents_fault sheet_faults first_fault
  no_joints_lem e = rw (eq-eqb _ _ e)

  module _ (some : length s ≡ 0 → ⊥) where
    pub many_joints : 128 < joints s → extents_fault s ≡ 2
    unfolding extents_fault sheet_faults first_fault
    many_joints h = rw (ne_eqb _ _ some, lt-ltb _ _ h)

    module _ (few : joints s ≤ 128) where
      pub bad_labels : (k : ℕ) → labels_fault (joints s) (labels_part s) ≡ k → (k ≡ 0 → ⊥) → extents_fault s ≡ k
      unfolding extents_fault sheet_faults first_fault
      bad_labels k e h = rw (ne_eqb _ _ some, le-ltb _ _ few, e) (fault_stops k (drop 3 (take 6 (sheet_faults s))) h)

      module _ (good : labels_fault (joints s) (labels_part s) ≡ 0) where
        pub no_count : length s < rank_start s → extents_fault s ≡ 1
        unfolding extents_fault sheet_faults first_fault
        no_count h = rw (ne_eqb _ _ some, le-ltb _ _ few, good, lt-ltb _ _ h)

        module _ (counted : rank_start s ≤ length s) where
          pub cut_short : length s < rank_end s → extents_fault s ≡ 1
          unfolding extents_fault sheet_faults first_fault
          cut_short h = rw (ne_eqb _ _ some, le-ltb _ _ few, good, le-ltb _ _ counted, lt-ltb _ _ h)

          -- up to the third section all is there: its extent decides
          pub by_third : rank_end s ≤ length s → (k : ℕ) → extent_fault (third s) ≡ k → extents_fault s ≡ k
          unfolding extents_fault sheet_faults first_fault
          by_third h k e = rw (ne_eqb _ _ some, le-ltb _ _ few, good, le-ltb _ _ counted, le-ltb _ _ h, e) (last_fault k)

-- CONTENTS
module _ (s : List ℕ) where
  pub bad_extents : (k : ℕ) → extents_fault s ≡ k → (k ≡ 0 → ⊥) → sheet_fault s ≡ k
  unfolding sheet_fault extents_fault
  bad_extents = in_first_part 6 (sheet_faults s)

  module _ (lie : extents_fault s ≡ 0) where
    pub bad_entries : (k : ℕ) → entries_fault (rank_count s) (joints s) (rankings_part s) ≡ k → (k ≡ 0 → ⊥) → sheet_fault s ≡ k
    unfolding sheet_fault extents_fault sheet_faults
    bad_entries k e h = in_second_part 6 (sheet_faults s) lie ∙ rw e (fault_stops k _ h)

    -- the entries have no fault: the parents decide
    pub by_parents : entries_fault (rank_count s) (joints s) (rankings_part s) ≡ 0 → (k : ℕ) → parents_fault (joints s) (third s) ≡ k → sheet_fault s ≡ k
    unfolding sheet_fault extents_fault sheet_faults
    by_parents clean k e = in_second_part 6 (sheet_faults s) lie ∙ fault_passes _ _ clean ∙ last_fault _ ∙ e
