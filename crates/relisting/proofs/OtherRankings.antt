-- An accepted sheet with other rankings, entries that ascend and are sound, and a third section: it is accepted, and has its labels and these entries.
use mathlib.Core.Path.{◌≡◌, refl, ◌∙◌}
use mathlib.Core.List.{List, ◌∷◌, ◌++◌}
use Prim.Native.Nat.{ℕ, suc, ◌+◌, ◌/◌, ◌%◌, ◌≤◌, ◌<◌}
use native.Mathlib.Nat.{add-zero}
use native.Mathlib.Omega.{arith}
use lib.ListN.{length, drop, get_or, length-append}
use lib.Seq.{get_or-append-add, drop-append-add, drop_at}
use Rattle.sections.specs.declared.Entry.{Entry}
use Rattle.sections.specs.Entries.{entries_fault}
use Rattle.sections.specs.Claims.{GoodEntries, Sound, Each, Ascending}
use Rattle.sections.proofs.EntryFaults.{entries_rule}
use Rattle.parents.specs.Claims.{IsSection}
use Rattle.sheet.specs.Format.{joints, label_of, count_start, rank_count, rankings_part, rank_end, entries_of, third}
use Rattle.sheet.specs.Refusals.{sheet_fault}
use Rattle.sheet.proofs.Accepted.{Accepted}
use Rattle.relisting.specs.Written.{bytes_of, count_bytes, ranked}
use Rattle.relisting.proofs.Beginnings.{front, begun_joints, past_front, begun_label, begun_accepted}
use Rattle.relisting.proofs.EntryBytes.{bytes_length, byte_entry, entries_back}

module _ (s : List ℕ) (x : Accepted s) (es : List Entry) (own : List ℕ) where
  -- what stands after the front
  abbrev rest : List ℕ
  rest = count_bytes (length es) ++ (bytes_of es ++ own)

  pub ranked_joints : joints (ranked s es own) ≡ joints s
  unfolding ranked
  ranked_joints = begun_joints s x rest

  pub ranked_label : (i : ℕ) → i < joints s → label_of (ranked s es own) i ≡ label_of s i
  unfolding ranked
  ranked_label = begun_label s x rest

  past_byte : (i : ℕ) → get_or (ranked s es own) (count_start (ranked s es own) + i) 0 ≡ get_or rest i 0
  unfolding ranked
  past_byte i = rw (past_front s x rest i) (get_or-append-add (front s) rest i 0)

  pub ranked_count : rank_count (ranked s es own) ≡ length es
  ranked_count =
      let low : get_or (ranked s es own) (count_start (ranked s es own)) 0 ≡ length es % 256 = rw add-zero at (past_byte 0) in
      let high : get_or (ranked s es own) (count_start (ranked s es own) + 1) 0 ≡ length es / 256 = past_byte 1 in
      omega arith

  ranked_part : rankings_part (ranked s es own) ≡ bytes_of es ++ own
  unfolding ranked
  ranked_part = rw (past_front s x rest 2) (drop-append-add (front s) rest 2)

  pub ranked_entries : entries_of (ranked s es own) ≡ es
  ranked_entries = rw (ranked_count, ranked_part) (entries_back own es)

  -- the entries end where the third section begins
  ranked_end : rank_end (ranked s es own) ≡ count_start (ranked s es own) + (2 + length (bytes_of es))
  ranked_end = let count = ranked_count in let three = bytes_length es in omega arith

  pub ranked_third : third (ranked s es own) ≡ own
  unfolding ranked
  ranked_third =
      rw (ranked_end, past_front s x rest (2 + length (bytes_of es)))
      (drop-append-add (front s) rest (2 + length (bytes_of es)) ∙ after (length es % 256) (length es / 256) (bytes_of es))
    where
      after : (a b : ℕ) (l : List ℕ) → drop (2 + length l) (a ∷ b ∷ (l ++ own)) ≡ own
      after a b l = let e : 2 + length l ≡ suc (suc (length l)) = omega arith in rw e (drop_at l own (length l) refl)

  ranked_reaches : rank_end (ranked s es own) ≤ length (ranked s es own)
  unfolding ranked
  ranked_reaches =
      let whole = length-append (front s) rest in
      let more = length-append (bytes_of es) own in
      let past = past_front s x rest (2 + length (bytes_of es)) in
      let end = ranked_end in
      omega arith

  module _ (each : Each (Sound (joints s)) es) (ascending : Ascending es) where
    good_entries : GoodEntries (length es) (joints s) (bytes_of es ++ own)
    good_entries = record {
      each = λ j l. rw (byte_entry own es j l) (each j l);
      ascending = λ i j k l. rw (byte_entry own es i (omega arith), byte_entry own es j l) (ascending i j k l);
    }

    ranked_clean : entries_fault (rank_count (ranked s es own)) (joints (ranked s es own)) (rankings_part (ranked s es own)) ≡ 0
    ranked_clean = rw (ranked_part, ranked_count, ranked_joints) ((entries_rule (length es) (joints s) (bytes_of es ++ own)).1 good_entries)

    pub ranked_accepted : IsSection (joints s) own → sheet_fault (ranked s es own) ≡ 0
    unfolding ranked
    ranked_accepted section = begun_accepted s x rest (ranked s es own) refl ranked_reaches ranked_clean (rw ranked_third section)
