-- Each way out of `extents` is a law of its own; the places are named where a fact is first known.
use Rattle.std.proofs.Common.{rules, ◌≡◌, List, ℕ, ◌+◌, ◌*◌, ◌≤◌, ◌<◌, length, drop, ◌∷◌, Err, refl, sym, ap, ◌∙◌}
use native.Mathlib.Omega.{arith}
use lib.ListN.{length-drop}
use Rattle.base.proofs.Places.{rest_is}
use Rattle.refusals.specs.declared.Refusal.TheVariants.{SheetCutShort, TooManyJoints}
use Rattle.refusals.specs.Numbers.{answered}
use Rattle.refusals.proofs.Numbers.{answered_refused, value_answered, refusal_answered, some_answered}
use Rattle.sections.specs.Labels.{label_width, labels_fault}
use Rattle.sections.proofs.LabelRule.{labels_rule}
use Rattle.sections.proofs.Numbers.{labels_is_fault}
use Rattle.parents.specs.Parents.{extent_fault}
use Rattle.parents.proofs.ThirdLaws.{extent_is_fault}
use Rattle.sheet.specs.Format.{joints, labels_part, rank_count, rank_start, rank_end, third}
use Rattle.sheet.specs.Refusals.{extents_fault}
use Rattle.sheet.specs.Readings.{parts_of}
use Rattle.sheet.proofs.SheetLaws.{two_bytes, accepted_as, no_joints_lem, many_joints, bad_labels, no_count, cut_short, by_third}
use Rattle.sheet.proofs.extents.Goals as goal
use Rattle.sheet.proofs.extents.Goals.{After-read_labels, After-from-m, After-parents_extent, Else-sheet-end, In_ok-n, In_ok-size}

-- a sheet that begins with a byte: the count of joints, and the labels' part behind it
begun : (s : List ℕ) {n : ℕ} {rest : List ℕ} → s ≡ n ∷ rest → (length s ≡ 0 → ⊥) × (joints s ≡ n) × (labels_part s ≡ rest)
begun s e = (λ z. omega (arith, z, ap length e), ap (λ (l : List ℕ). joints l) e, ap (λ (l : List ℕ). labels_part l) e)

-- WHERE THE JOINTS ARE FEW: the sheet, and what is known of it
abbrev sheet : In_ok-n → List ℕ
sheet c = c.args.sheet.now

some : (c : In_ok-n) → length (sheet c) ≡ 0 → ⊥
some c = (begun (sheet c) c.in-Some.ensures.cases.0).0

count : (c : In_ok-n) → c.in_ok-n.n.count ≡ joints (sheet c)
count c = c.in_ok-n.ensures ∙ sym (begun (sheet c) c.in-Some.ensures.cases.0).1

few : (c : In_ok-n) → joints (sheet c) ≤ 128
few c = let h = c.in_ok-n.n.few in omega (arith, count c)

labels_are : (c : After-read_labels)
    → let at = (goal.at.After-read_labels c).In_ok-n in c.read_labels.result ≡ answered (labels_fault (joints (sheet at)) (labels_part (sheet at))) (label_width * joints (sheet at))
labels_are c =
    let at = (goal.at.After-read_labels c).In_ok-n in
    rw (← count at, (begun (sheet at) at.in-Some.ensures.cases.0).2) c.read_labels.ensures

labels_read : (c : In_ok-size)
    → let at = (goal.at.In_ok-size c).In_ok-n in
    (labels_fault (joints (sheet at)) (labels_part (sheet at)) ≡ 0) × (label_width * joints (sheet at) ≡ c.in_ok-size.size)
labels_read c =
    let at = goal.at.In_ok-size c in
    value_answered _ _ _ (labels_is_fault (joints (sheet at.In_ok-n)) (labels_part (sheet at.In_ok-n))) (sym (labels_are at.After-read_labels) ∙ c.in_ok-size.was)

-- WHERE THE ENTRIES ARE COUNTED
reached : (c : In_ok-size) → 1 + c.in_ok-size.size ≤ length (sheet (goal.at.In_ok-size c).In_ok-n)
reached c =
    let s = sheet (goal.at.In_ok-size c).In_ok-n in
    let (good, size) = labels_read c in
    let long = ((labels_rule (joints s) (labels_part s)).0 good).long in
    let n = some (goal.at.In_ok-size c).In_ok-n in
    omega (arith, length-drop 1 s, n)

counted : (c : After-from-m) → let s = sheet (goal.at.After-from-m c).In_ok-n in rank_start s ≤ length s
counted c =
    let at = goal.at.After-from-m c in
    let s = sheet at.In_ok-n in
    omega (arith, (labels_read at.In_ok-size).1, c.in-Some-first_chunk.ensures.cases.enough, ap length (rest_is (1 + c.in_ok-size.size) s), length-drop (1 + c.in_ok-size.size) s)

count_is : (c : After-from-m) → c.from-m.result ≡ rank_count (sheet (goal.at.After-from-m c).In_ok-n)
count_is c =
    let at = goal.at.After-from-m c in
    rw ((labels_read at.In_ok-size).1)
    (c.from-m.ensures ∙ two_bytes (sheet at.In_ok-n) (1 + c.in_ok-size.size) c.in-Some-first_chunk.bytes.now _ c.in-Some-first_chunk.ensures.cases.same c.from_le_bytes.ensures)

abbrev whole : Else-sheet-end → List ℕ
whole c = sheet (goal.at.Else-sheet-end c).In_ok-n

-- where they end, as the code has it
abbrev end : Else-sheet-end → ℕ
end c = 1 + c.in_ok-size.size + 2 + 3 * c.from-m.result

end_is : (c : Else-sheet-end) → end c ≡ rank_end (whole c)
end_is c =
    let at = goal.at.Else-sheet-end c in
    let size = (labels_read at.In_ok-size).1 in let count = count_is at.After-from-m in omega arith

reaches : (c : Else-sheet-end) → rank_end (whole c) ≤ length (whole c)
reaches c = let e = end_is c in omega (arith, c.if-sheet-end.false)

-- the third section's extent, and what it decides
extent_is : (c : After-parents_extent)
    → let s = whole (goal.at.After-parents_extent c).Else-sheet-end in c.parents_extent.result ≡ answered (extent_fault (third s)) (tt {0})
extent_is c =
    let at = (goal.at.After-parents_extent c).Else-sheet-end in
    c.parents_extent.ensures
    ∙ ap (λ (l : List ℕ). answered (extent_fault l) (tt {0})) (rest_is (end at) (whole at) ∙ ap (λ (k : ℕ). drop k (whole at)) (end_is at))

decided : (c : Else-sheet-end) (k : ℕ) → extent_fault (third (whole c)) ≡ k → extents_fault (whole c) ≡ k
decided c =
    let at = goal.at.Else-sheet-end c in
    by_third (whole c) (some at.In_ok-n) (few at.In_ok-n) (labels_read at.In_ok-size).0 (counted at.After-from-m) (reaches c)

pub returns-in_default : goal.returns-in_default
returns-in_default c =
    let s = c.args.sheet.now in
    let none : length s ≡ 0 = search rules in
    answered_refused (parts_of s) (extents_fault s) SheetCutShort (sym (no_joints_lem s none))

pub returns-in_err-n : goal.returns-in_err-n
returns-in_err-n c =
    let s = c.args.sheet.now in
    let told = c.in_err-n.ensures in
    let (some, first, _) = begun s c.in-Some.ensures.cases.0 in
    let refused = answered_refused (parts_of s) (extents_fault s) TooManyJoints (sym (many_joints s some (rw first told.1))) in
    let same : c.from_residual.result ≡ Err c.in_err-n.field-0.0 = search rules in
    same ∙ ap Err told.0 ∙ refused

pub returns-in_err-size : goal.returns-in_err-size
returns-in_err-size c =
    let at = goal.at.returns-in_err-size c in
    let s = c.args.sheet.now in
    let told = sym (labels_are at.After-read_labels) ∙ c.in_err-size.was in
    let bad = bad_labels s (some at.In_ok-n) (few at.In_ok-n) _ refl (some_answered _ _ _ told) in
    let same : c.from_residual-in_err-size.result ≡ Err c.in_err-size.field-0.0 = search rules in
    same ∙ answered_refused (parts_of s) (extents_fault s) _ (refusal_answered _ _ _ told ∙ sym bad)

pub overflow_add-count : goal.overflow_add-count
overflow_add-count c = let e = (labels_read c).1 in let f = few (goal.at.overflow_add-count c).In_ok-n in omega arith

pub overflow_add-start : goal.overflow_add-start
overflow_add-start c =
    let at = goal.at.overflow_add-start c in let e = (labels_read at.In_ok-size).1 in let f = few at.In_ok-n in omega arith

pub slice_bounds-first_chunk-count : goal.slice_bounds-first_chunk-count
slice_bounds-first_chunk-count c = reached (goal.at.slice_bounds-first_chunk-count c).In_ok-size

pub slice_bounds-first_chunk-start : goal.slice_bounds-first_chunk-start
slice_bounds-first_chunk-start c = reached (goal.at.slice_bounds-first_chunk-start c).In_ok-size

pub returns-in_default-first_chunk : goal.returns-in_default-first_chunk
returns-in_default-first_chunk c =
    let at = goal.at.returns-in_default-first_chunk c in
    let s = c.args.sheet.now in
    let (good, size) = labels_read at.In_ok-size in
    let k = 1 + c.in_ok-size.size in
    let short : length s < rank_start s = omega (arith, reached at.In_ok-size, size, c.in_default-first_chunk.ensures.cases, ap length (rest_is k s), length-drop k s) in
    answered_refused (parts_of s) (extents_fault s) SheetCutShort
    (sym (no_count s (some at.In_ok-n) (few at.In_ok-n) good short))

pub returns-then-sheet-end : goal.returns-then-sheet-end
returns-then-sheet-end c =
    let at = goal.at.returns-then-sheet-end c in
    let s = c.args.sheet.now in
    let (good, size) = labels_read at.In_ok-size in
    answered_refused (parts_of s) (extents_fault s) SheetCutShort
    (sym (cut_short s (some at.In_ok-n) (few at.In_ok-n) good (counted at.After-from-m) (rw (← count_is at.After-from-m, size) c.if-sheet-end.true)))

pub slice_bounds-parents_extent-count : goal.slice_bounds-parents_extent-count
slice_bounds-parents_extent-count c = omega (arith, c.if-sheet-end.false)

pub slice_bounds-parents_extent-start : goal.slice_bounds-parents_extent-start
slice_bounds-parents_extent-start c = omega (arith, c.if-sheet-end.false)

pub returns-in_err-parents_extent : goal.returns-in_err-parents_extent
returns-in_err-parents_extent c =
    let at = goal.at.returns-in_err-parents_extent c in
    let s = c.args.sheet.now in
    let told = sym (extent_is at.After-parents_extent) ∙ c.in_err-parents_extent.was in
    let same : c.from_residual-in_err-parents_extent.result ≡ Err c.in_err-parents_extent.field-0.0 = search rules in
    same ∙ answered_refused (parts_of s) (extents_fault s) _ (refusal_answered _ _ _ told ∙ sym (decided at.Else-sheet-end _ refl))

pub returns : goal.returns
returns c =
    let at = goal.at.returns c in
    let s = c.args.sheet.now in
    let (good, size) = labels_read at.In_ok-size in
    let start : 1 + c.in_ok-size.size + 2 ≡ rank_start s = omega arith in
    let (clean, long) = value_answered _ _ _ (extent_is_fault (third s)) (sym (extent_is at.After-parents_extent) ∙ c.in_ok-parents_extent.was) in
    accepted_as s (count at.In_ok-n) (count_is at.After-from-m) start (end_is at.Else-sheet-end) (decided at.Else-sheet-end 0 clean)
