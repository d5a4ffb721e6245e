-- Laws of the written sheet: its labels, and where its sections lie.
use mathlib.Core.Path.{◌≡◌, refl, sym, ap, ◌∙◌}
use mathlib.Core.List.{List, ◌∷◌, ◌++◌, append_assoc}
use Prim.Native.Nat.{ℕ, zero, suc, ◌+◌, ◌*◌, ◌-◌, ◌≤◌, ◌<◌}
use native.Mathlib.Omega.{arith}
use lib.ListN.{length, get_or, take, drop, replicate, length-append, length-drop, length-replicate, get_or-replicate, get_or-append}
use lib.Seq.{take_at, drop_at, take-append_seam, drop-append-add, get_or-append-add}
use Rattle.base.specs.Below.{joined}
use Rattle.base.proofs.Cases.{case, below_suc}
use Rattle.sections.specs.Labels.{label_in, visible_run}
use Rattle.sections.specs.Claims.{Label, GoodLabels}
use Rattle.sections.proofs.LabelRule.{range_visible, run_is}
use Rattle.sheet.specs.Format.{joints, labels_part, label_of, count_start, rank_count, rank_end, third}
use Rattle.names.specs.Names.{name_of}
use Rattle.names.specs.Claims.{Name, GoodNames}
use Rattle.hierarchy.specs.Hierarchy.{Joints}
use Rattle.bvh.specs.Written.{label_for, labels_for, sheet_for}

-- A LABEL: the name's bytes, and zeros behind them
pub label_length : (w : List ℕ) → length w ≤ 16 → length (label_for w) ≡ 16
label_length w h = simp (length-append, length-replicate) (omega arith)

module _ (w : List ℕ) (name : Name w) where
  label_seen : (i : ℕ) → i < length w → (33 ≤ get_or (label_for w) i 0) × (get_or (label_for w) i 0 ≤ 126)
  label_seen i l = rw (get_or-append w (replicate (16 - length w) 0) 0 i l) (name.seen i l)

  label_zeros : (i : ℕ) → length w ≤ i → i < length (label_for w) → get_or (label_for w) i 0 ≡ 0
  label_zeros i h l =
      let long = label_length w name.short in
      let e : i ≡ length w + (i - length w) = omega arith in
      rw e (get_or-append-add w _ (i - length w) 0 ∙ get_or-replicate (16 - length w) (i - length w) 0 0 (omega arith))

  label_within : length w ≤ length (label_for w)
  label_within = let e = label_length w name.short in let s = name.short in omega arith

  label_is : 1 ≤ length w → Label (label_for w)
  label_is some = record { run = length w; some = some; within = label_within; seen = label_seen; zeros = label_zeros }

  -- its run is the name
  label_run : visible_run (label_for w) ≡ length w
  label_run = run_is (label_for w) (length w) label_within (λ i l. range_visible _ (label_seen i l)) label_zeros

-- so names that differ have labels that differ
one_name : (a b : List ℕ) → Name a → Name b → label_for a ≡ label_for b → a ≡ b
one_name a b p q e =
    let same : length a ≡ length b = sym (label_run a p) ∙ ap visible_run e ∙ label_run b q in
    sym (take-append_seam a (replicate (16 - length a) 0)) ∙ ap (take (length a)) e ∙ take_at b (replicate (16 - length b) 0) (length a) (sym same)

-- LABELS, one behind the other
module _ (part : ℕ → List ℕ) where
  pub parts_length : (n : ℕ) → ((i : ℕ) → i < n → length (part i) ≡ 16) → length (joined n part) ≡ 16 * n
  unfolding joined
  parts_length zero each = refl
  parts_length (suc n) each =
      let rest = parts_length n (λ i l. each i (omega arith)) in
      let last = each n (omega arith) in
      simp length-append (omega arith)

  part_at : (n : ℕ) → ((i : ℕ) → i < n → length (part i) ≡ 16) → (i : ℕ) → i < n → (more : List ℕ)
      → take 16 (drop (16 * i) (joined n part ++ more)) ≡ part i
  unfolding joined
  part_at zero each i l more = absurd (omega arith)
  part_at (suc n) each i l more =
      let before : (j : ℕ) → j < n → length (part j) ≡ 16 = λ j k. each j (omega arith) in
      rw (append_assoc (joined n part) (part n) more)
      (case (below_suc l)
      (λ e. rw e (ap (take 16) (drop_at (joined n part) (part n ++ more) (16 * n) (parts_length n before)) ∙ take_at (part n) more 16 (each n (omega arith))))
      (λ k. part_at n before i k (part n ++ more)))

-- THE SHEET of joints whose names are short
module _ (js : Joints) (short : (i : ℕ) → i < length js.names → length (name_of js.names i) ≤ 16) where
  abbrev n : ℕ
  n = length js.names

  -- what stands behind the labels
  abbrev rest : List ℕ
  rest = 0 ∷ 0 ∷ n ∷ js.parents

  each_long : (i : ℕ) → i < n → length (label_for (name_of js.names i)) ≡ 16
  each_long i l = label_length (name_of js.names i) (short i l)

  labels_long : length (labels_for js.names) ≡ 16 * n
  labels_long = parts_length _ n each_long

  pub sheet_joints : joints (sheet_for js) ≡ n
  unfolding sheet_for
  sheet_joints = refl

  pub sheet_length : length (sheet_for js) ≡ 4 + 16 * n + length js.parents
  unfolding sheet_for
  sheet_length = let e = labels_long in simp length-append (omega arith)

  -- its labels, as the reader's part and as the sheet has them
  part_label : (i : ℕ) → i < n → label_in (labels_part (sheet_for js)) i ≡ label_for (name_of js.names i)
  unfolding sheet_for
  part_label i l = let e : 0 + 16 * i ≡ 16 * i = omega arith in rw e (part_at _ n each_long i l rest)

  pub sheet_label : (i : ℕ) → i < n → label_of (sheet_for js) i ≡ label_for (name_of js.names i)
  unfolding sheet_for
  sheet_label i l = let e : 1 + 16 * i ≡ suc (16 * i) = omega arith in rw e (part_at _ n each_long i l rest)

  -- k bytes behind them
  past : (k : ℕ) → count_start (sheet_for js) + k ≡ length (n ∷ labels_for js.names) + k
  past k = let e = labels_long in let j = sheet_joints in omega arith

  byte_past : (k : ℕ) → get_or (sheet_for js) (count_start (sheet_for js) + k) 0 ≡ get_or rest k 0
  unfolding sheet_for
  byte_past k = rw (past k) (get_or-append-add (n ∷ labels_for js.names) rest k 0)

  -- no entries, and then the parents
  pub sheet_entries : rank_count (sheet_for js) ≡ 0
  sheet_entries =
      let start : count_start (sheet_for js) + 0 ≡ count_start (sheet_for js) = omega arith in
      let low = rw start at (byte_past 0) in
      let high = byte_past 1 in
      omega arith

  pub sheet_end : rank_end (sheet_for js) ≡ 3 + 16 * n
  sheet_end = let e = sheet_entries in let j = sheet_joints in omega arith

  pub sheet_third : third (sheet_for js) ≡ n ∷ js.parents
  unfolding sheet_for
  sheet_third =
      let e : rank_end (sheet_for js) ≡ length (n ∷ labels_for js.names) + 2 = let m = sheet_end in let l = labels_long in omega arith in
      rw e (drop-append-add (n ∷ labels_for js.names) rest 2)

-- its labels are good where its names are and have bytes
pub sheet_labels : (js : Joints) → GoodNames js.names → ((i : ℕ) → i < length js.names → 1 ≤ length (name_of js.names i))
    → GoodLabels (length js.names) (labels_part (sheet_for js))
sheet_labels js good some =
    let short : (i : ℕ) → i < length js.names → length (name_of js.names i) ≤ 16 = λ i l. (good.each i l).short in
    let same = part_label js short in
    record {
      long = let e = sheet_length js short in let d = length-drop 1 (sheet_for js) in omega arith;
      each = λ i l. rw (same i l) (label_is (name_of js.names i) (good.each i l) (some i l));
      differ = λ i j k l e.
          let below : j < length js.names = omega arith in
          good.differ i j k l (one_name _ _ (good.each i l) (good.each j below) (sym (same i l) ∙ e ∙ same j below));
    }
