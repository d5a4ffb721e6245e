-- The tests of labels mean document 01's rule.
use mathlib.Core.Path.{◌≡◌, sym, ap, ◌∙◌}
use mathlib.Core.Bool.{true, false, not}
use mathlib.Core.List.{List, [], ◌∷◌}
use mathlib.Core.Logic.{◌≢◌}
use Prim.Native.Nat.{ℕ, zero, suc, ◌+◌, ◌-◌, ◌*◌, ◌≤◌, ◌<◌}
use native.Mathlib.Omega.{arith}
use lib.Dec.{leb}
use lib.ListN.{length, get_or, drop, length-drop}
use lib.Seq.{get_or-drop}
use borrow.Author.Tests.{leb-true, le-leb, lt-leb, ltb-false, le-ltb, not-false}
use Rattle.base.specs.Below.{any_below}
use Rattle.base.specs.Faults.{first_fault}
use Rattle.base.proofs.Cases.{case, both_ways}
use Rattle.base.proofs.Tests.{never, not_so, or_false, and_true}
use Rattle.base.proofs.AnyBelow.{any_none, none_any}
use Rattle.base.proofs.Faults.{first_none, when_none}
use Rattle.sections.specs.Labels.{label_width, label_in, visible, visible_run, all_zero, label_ok, repeats, label_bad, labels_fault}
use Rattle.sections.specs.Claims.{Label, LabelRule, GoodLabels, LabelsRule}
use Rattle.sections.proofs.LabelLaws.{run_told, zero_at, at_zero, same_true, same_equal}

-- A BYTE
pub visible_range : (b : ℕ) → visible b ≡ true → (33 ≤ b) × (b ≤ 126)
visible_range b h = let (low, high) = and_true (leb 33 b) (leb b 126) h in (leb-true 33 b low, leb-true b 126 high)

pub range_visible : (b : ℕ) → (33 ≤ b) × (b ≤ 126) → visible b ≡ true
range_visible b h = rw (le-leb 33 b h.0, le-leb b 126 h.1)

zero_unseen : (b : ℕ) → b ≡ 0 → visible b ≡ false
zero_unseen b h = let l : b < 33 = omega arith in rw (lt-leb 33 b l)

-- THE RUN of a label, and what is behind it
pub run_seen : (l : List ℕ) (i : ℕ) → i < visible_run l → visible (get_or l i 0) ≡ true
unfolding visible_run
run_seen [] i h = absurd (omega arith)
run_seen (b ∷ l) zero h = case (both_ways (visible b)) (λ t. t) (λ f. let k : 0 < 0 = rw f at h in absurd (omega arith))
run_seen (b ∷ l) (suc i) h =
    case (both_ways (visible b))
    (λ t. let k : suc i < suc (visible_run l) = rw t at h in run_seen l i (omega arith))
    (λ f. let k : suc i < 0 = rw f at h in absurd (omega arith))

run_within : (l : List ℕ) → visible_run l ≤ length l
unfolding visible_run
run_within [] = omega arith
run_within (b ∷ l) = let h = run_within l in case (both_ways (visible b)) (λ t. rw t (omega arith)) (λ f. rw f (omega arith))

-- a run of seen bytes before zeros is the run
pub run_is : (l : List ℕ) (k : ℕ) → k ≤ length l → ((i : ℕ) → i < k → visible (get_or l i 0) ≡ true) → ((i : ℕ) → k ≤ i → i < length l → get_or l i 0 ≡ 0)
    → visible_run l ≡ k
run_is l k w seen zeros = run_told l k w seen (λ h. zero_unseen _ (zeros k (omega arith) h))

-- A LABEL
label_is : (l : List ℕ) → label_ok l ≡ true → Label l
unfolding label_ok
label_is l h =
    let (one, zeros) = and_true (leb 1 (visible_run l)) (all_zero (drop (visible_run l) l)) h in
    record {
      run = visible_run l;
      some = leb-true 1 (visible_run l) one;
      within = run_within l;
      seen = λ i g. visible_range (get_or l i 0) (run_seen l i g);
      zeros = λ i g k.
          let e : visible_run l + (i - visible_run l) ≡ i = omega arith in
          ap (λ (j : ℕ). get_or l j 0) (sym e) ∙ sym (get_or-drop (visible_run l) l (i - visible_run l) 0)
          ∙ zero_at (drop (visible_run l) l) zeros (i - visible_run l);
    }

is_label : (l : List ℕ) → Label l → label_ok l ≡ true
unfolding label_ok
is_label l r =
    let e = run_is l r.run r.within (λ i h. range_visible _ (r.seen i h)) r.zeros in
    rw (e, le-leb 1 r.run r.some)
    (at_zero (drop r.run l)
    (λ i h. let g = length-drop r.run l in get_or-drop r.run l i 0 ∙ r.zeros (r.run + i) (omega arith) (omega arith)))

pub label_rule : LabelRule
label_rule l = (label_is l, is_label l)

-- THE SECTION
not_repeated : (part : List ℕ) (i j : ℕ) → repeats part i j ≡ false → label_in part i ≢ label_in part j
unfolding repeats
not_repeated part i j h e = never _ (same_true _ _ e) h

unrepeated : (part : List ℕ) (i j : ℕ) → label_in part i ≢ label_in part j → repeats part i j ≡ false
unfolding repeats
unrepeated part i j ne = not_so _ (λ h. ne (same_equal _ _ h))

not_bad : (part : List ℕ) (i : ℕ) → label_bad part i ≡ false → (label_ok (label_in part i) ≡ true) × (any_below i (repeats part i) ≡ false)
unfolding label_bad
not_bad part i h = let (ok, new) = or_false (not (label_ok (label_in part i))) _ h in (not-false _ ok, new)

good_not_bad : (part : List ℕ) (i : ℕ) → label_ok (label_in part i) ≡ true → any_below i (repeats part i) ≡ false → label_bad part i ≡ false
unfolding label_bad
good_not_bad part i ok new = rw (ok, new)

good_labels : (n : ℕ) (part : List ℕ) → labels_fault n part ≡ 0 → GoodLabels n part
unfolding labels_fault
good_labels n part h =
    let (h1, rest) = first_none _ _ h in
    let (h3, none) = first_none _ _ rest in
    let each = any_none n (label_bad part) (when_none _ _ h3) in
    record {
      long = ltb-false (length part) (label_width * n) (when_none _ _ h1);
      each = λ i l. label_is (label_in part i) (not_bad part i (each i l)).0;
      differ = λ i j k l. not_repeated part i j (any_none i (repeats part i) (not_bad part i (each i l)).1 j k);
    }

labels_good : (n : ℕ) (part : List ℕ) → GoodLabels n part → labels_fault n part ≡ 0
unfolding labels_fault first_fault
labels_good n part g =
    let none = none_any n (label_bad part)
    (λ i l. good_not_bad part i (is_label (label_in part i) (g.each i l))
    (none_any i (repeats part i) (λ j k. unrepeated part i j (g.differ i j k l)))) in
    rw (le-ltb _ _ g.long, none)

pub labels_rule : LabelsRule
labels_rule n part = (good_labels n part, labels_good n part)
