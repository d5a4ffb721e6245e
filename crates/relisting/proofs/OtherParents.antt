-- An accepted sheet with another third section, or none, is accepted, and has its joints, labels and rankings.
use mathlib.Core.Path.{◌≡◌, sym, ap, ◌∙◌}
use mathlib.Core.List.{List, ◌++◌, append_assoc}
use Prim.Native.Nat.{ℕ, ◌+◌, ◌*◌, ◌≤◌, ◌<◌}
use native.Mathlib.Omega.{arith}
use lib.ListN.{length, take, drop, get_or, length-append, take-append-drop, get_or-append}
use lib.Seq.{length-take-le, get_or-take, get_or-drop, take-take, drop_at, ext_get_or}
use Rattle.sections.specs.Entries.{entry_width, entry, entry_in, entries_from, entries_fault}
use Rattle.sections.specs.Claims.{GoodEntries}
use Rattle.sections.proofs.EntryFaults.{entries_rule}
use Rattle.sections.proofs.EntryList.{length_entries, entry_at}
use Rattle.sheet.specs.Format.{joints, label_of, count_start, rank_count, rank_start, rankings_part, rank_end, entries_of, third}
use Rattle.sheet.proofs.Accepted.{Accepted, accepted}
use Rattle.relisting.specs.Written.{with_third}
use Rattle.relisting.specs.Claims.{OtherParents}
use Rattle.relisting.proofs.Beginnings.{front, begun_joints, begun_label, begun_accepted}

module _ (s : List ℕ) (x : Accepted s) (own : List ℕ) where
  abbrev r : List ℕ
  r = with_third s own

  -- s up to the end of its rankings
  abbrev kept : List ℕ
  kept = take (rank_end s) s

  kept_length : length kept ≡ rank_end s
  kept_length = length-take-le (rank_end s) s x.reaches

  -- r begins with the joints and labels of s
  abbrev rest : List ℕ
  rest = drop (count_start s) kept ++ own

  begins : r ≡ front s ++ rest
  unfolding with_third
  begins =
      let whole : kept ≡ front s ++ drop (count_start s) kept =
      sym (take-append-drop (count_start s) kept) ∙ ap (λ (l : List ℕ). l ++ drop (count_start s) kept) (take-take (count_start s) (rank_end s) s (omega arith)) in
      ap (λ (l : List ℕ). l ++ own) whole ∙ append_assoc (front s) (drop (count_start s) kept) own

  other_joints : joints r ≡ joints s
  other_joints = ap joints begins ∙ begun_joints s x rest

  other_label : (i : ℕ) → i < joints s → label_of r i ≡ label_of s i
  other_label i l = ap (λ (l : List ℕ). label_of l i) begins ∙ begun_label s x rest i l

  -- a byte before the end of the rankings
  byte_kept : (i : ℕ) → i < rank_end s → get_or r i 0 ≡ get_or s i 0
  unfolding with_third
  byte_kept i l =
      let e = kept_length in
      get_or-append kept own 0 i (omega arith) ∙ get_or-take (rank_end s) s i 0 l

  other_start : count_start r ≡ count_start s
  other_start = let n = other_joints in omega arith

  other_count : rank_count r ≡ rank_count s
  other_count =
      rw other_start
      (let low = byte_kept (count_start s) (omega arith) in let high = byte_kept (count_start s + 1) (omega arith) in omega arith)

  -- a byte of the entries, and an entry
  part_byte : (i : ℕ) → i < entry_width * rank_count s → get_or (rankings_part r) i 0 ≡ get_or (rankings_part s) i 0
  part_byte i l =
      get_or-drop (rank_start r) r i 0 ∙ rw other_start (byte_kept (rank_start s + i) (omega arith)) ∙ sym (get_or-drop (rank_start s) s i 0)

  same_entry : (j : ℕ) → j < rank_count s → entry_in (rankings_part r) j ≡ entry_in (rankings_part s) j
  unfolding entry_in
  same_entry j l =
      rw (part_byte (entry_width * j) (omega arith), part_byte (entry_width * j + 1) (omega arith), part_byte (entry_width * j + 2) (omega arith))

  other_entries : entries_of r ≡ entries_of s
  other_entries =
      let m : ℕ = rank_count s in
      let long = length_entries m 0 (rankings_part r) in
      rw other_count
      (ext_get_or (entry 0 0 0) (entries_from m 0 (rankings_part r)) (entries_from m 0 (rankings_part s)) (long ∙ sym (length_entries m 0 (rankings_part s)))
      (λ i l. let k : i < m = rw long at l in
      entry_at m (rankings_part r) i k ∙ same_entry i k ∙ sym (entry_at m (rankings_part s) i k)))

  other_end : rank_end r ≡ rank_end s
  other_end = let a = other_start in let b = other_count in omega arith

  other_third : third r ≡ own
  unfolding with_third
  other_third = rw other_end (drop_at kept own (rank_end s) kept_length)

  other_reaches : rank_end r ≤ length r
  unfolding with_third
  other_reaches = let e = other_end in let k = kept_length in let whole = length-append kept own in omega arith

  other_clean : entries_fault (rank_count r) (joints r) (rankings_part r) ≡ 0
  other_clean =
      let good = (entries_rule (rank_count s) (joints s) (rankings_part s)).0 x.faultless in
      let same : GoodEntries (rank_count s) (joints s) (rankings_part r) = record {
        each = λ j l. rw (same_entry j l) (good.each j l);
        ascending = λ i j k l. rw (same_entry i (omega arith), same_entry j l) (good.ascending i j k l);
      } in
      ap (λ (m : ℕ). entries_fault m (joints r) (rankings_part r)) other_count
      ∙ ap (λ (n : ℕ). entries_fault (rank_count s) n (rankings_part r)) other_joints
      ∙ (entries_rule (rank_count s) (joints s) (rankings_part r)).1 same

pub other_parents : OtherParents
other_parents s own h section =
    let x = accepted s h in
    record {
      accepted = begun_accepted s x (rest s x own) (with_third s own) (begins s x own) (other_reaches s x own) (other_clean s x own)
          (rw (other_third s x own) section);
      same_joints = other_joints s x own;
      same_labels = other_label s x own;
      same_entries = other_entries s x own;
      third_is = other_third s x own;
    }
