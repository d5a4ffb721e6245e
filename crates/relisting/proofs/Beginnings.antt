-- An accepted sheet's joints and labels with other bytes after them: what is accepted, and what is the same.
use mathlib.Core.Path.{◌≡◌, sym, ap, ◌∙◌}
use mathlib.Core.List.{List, ◌++◌}
use mathlib.Core.Logic.{◌≢◌}
use Prim.Native.Nat.{ℕ, ◌+◌, ◌*◌, ◌≤◌, ◌<◌}
use native.Mathlib.Omega.{arith}
use lib.ListN.{length, take, drop, length-append, length-drop, take-append-drop, get_or-append}
use lib.Seq.{length-take-le, get_or-take, drop-drop, take-append-le, drop-append-le}
use Rattle.sections.specs.Labels.{label_width, label_in, labels_fault}
use Rattle.sections.specs.Entries.{entries_fault}
use Rattle.sections.specs.Claims.{GoodLabels}
use Rattle.sections.proofs.LabelRule.{labels_rule}
use Rattle.parents.specs.Parents.{parents_fault}
use Rattle.parents.specs.Claims.{IsSection}
use Rattle.parents.proofs.SectionRule.{section_rule}
use Rattle.sheet.specs.Format.{joints, labels_part, label_of, count_start, rank_count, rankings_part, rank_end, third}
use Rattle.sheet.specs.Refusals.{sheet_fault}
use Rattle.sheet.proofs.Accepted.{Accepted}
use Rattle.sheet.proofs.SheetLaws.{by_third, by_parents}

-- the bytes of s before its rankings
abbrev pub front : List ℕ → List ℕ
front s = take (count_start s) s

-- bytes within the first part of two are its own
within : (k w : ℕ) (p l : List ℕ) → k + w ≤ length p → take w (drop k (p ++ l)) ≡ take w (drop k p)
within k w p l h =
    let long = length-drop k p in
    rw (drop-append-le k p l (omega arith)) (take-append-le w (drop k p) l (omega arith))

-- a label of a sheet, as the labels' part has it
part_label : (s : List ℕ) (i : ℕ) → label_in (labels_part s) i ≡ label_of s i
part_label s i =
    let e : 1 + (0 + label_width * i) ≡ 1 + label_width * i = omega arith in
    rw (drop-drop (0 + label_width * i) 1 s, e)

module _ (s : List ℕ) (x : Accepted s) (rest : List ℕ) where
  pub front_length : length (front s) ≡ count_start s
  front_length = let e = x.reaches in length-take-le (count_start s) s (omega arith)

  pub begun_joints : joints (front s ++ rest) ≡ joints s
  begun_joints =
      let e = front_length in
      get_or-append (front s) rest 0 0 (omega arith) ∙ get_or-take (count_start s) s 0 0 (omega arith)

  -- what stands i bytes after the front
  pub past_front : (i : ℕ) → count_start (front s ++ rest) + i ≡ length (front s) + i
  past_front i = let e = front_length in let n = begun_joints in omega arith

  -- the labels are those of s
  pub begun_label : (i : ℕ) → i < joints s → label_of (front s ++ rest) i ≡ label_of s i
  begun_label i l =
      let e = front_length in
      let h : 1 + label_width * i + label_width ≤ length (front s) = omega arith in
      within (1 + label_width * i) label_width (front s) _ h
      ∙ sym (within (1 + label_width * i) label_width (front s) (drop (count_start s) s) h)
      ∙ ap (λ (l : List ℕ). label_of l i) (take-append-drop (count_start s) s)

  -- .. as the reader's part has them
  same_label : (i : ℕ) → i < joints s → label_in (labels_part (front s ++ rest)) i ≡ label_in (labels_part s) i
  same_label i l = part_label (front s ++ rest) i ∙ begun_label i l ∙ sym (part_label s i)

  labels_good : GoodLabels (joints s) (labels_part (front s ++ rest))
  labels_good = record {
    long =
        let whole = length-append (front s) rest in
        let e = front_length in
        let d = length-drop 1 (front s ++ rest) in
        omega arith;
    each = λ i l. rw (same_label i l) (x.labels.each i l);
    differ = λ i j k l. rw (same_label i l, same_label j (omega arith)) (x.labels.differ i j k l);
  }

  begun_labels : labels_fault (joints (front s ++ rest)) (labels_part (front s ++ rest)) ≡ 0
  begun_labels = rw begun_joints ((labels_rule (joints s) (labels_part (front s ++ rest))).1 labels_good)

-- such a sheet r whose rankings are there and without a fault, and whose third section is one, is accepted
pub begun_accepted : (s : List ℕ) → Accepted s → (rest r : List ℕ) → r ≡ front s ++ rest → rank_end r ≤ length r
    → entries_fault (rank_count r) (joints r) (rankings_part r) ≡ 0 → IsSection (joints s) (third r) → sheet_fault r ≡ 0
begun_accepted s x rest r is reaches clean section =
    let same : joints r ≡ joints s = ap joints is ∙ begun_joints s x rest in
    let few : joints r ≤ 128 = rw same x.few_joints in
    let some : length r ≢ 0 = λ z. omega arith in
    let labels : labels_fault (joints r) (labels_part r) ≡ 0 = rw is (begun_labels s x rest) in
    let (extent, parents) = (section_rule (joints s) (third r)).1 section in
    let lie = by_third r some few labels (omega arith) reaches 0 extent in
    by_parents r lie clean 0 (ap (λ (n : ℕ). parents_fault n (third r)) same ∙ parents)
