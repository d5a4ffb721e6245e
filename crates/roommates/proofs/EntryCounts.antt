-- Counts of the places of lists and of entries; what striking does to them.
use mathlib.Core.Path.{◌≡◌, ap, sym, ◌∙◌}
use mathlib.Core.Bool.{cond}
use mathlib.Core.Logic.{◌≢◌}
use mathlib.Core.List.{List}
use Prim.Native.Nat.{ℕ, ◌+◌, ◌*◌, ◌≤◌, ◌<◌}
use native.Mathlib.Omega.{arith}
use lib.Dec.{ltb}
use lib.ListN.{get_or}
use borrow.Author.Tests.{lt-ltb, eq-eqb}
use Rattle.sheet.specs.Square.{at}
use Rattle.base.proofs.Cases.{case, lt_ge}
use Rattle.base.proofs.Tests.{unlisted}
use Rattle.roommates.specs.Lists.{Square, row, is_listed, list_length, band_size}
use Rattle.roommates.specs.Left.{entry_count}
use Rattle.roommates.proofs.Basics.{Below}
use Rattle.base.specs.Below.{sum_below}
use Rattle.base.proofs.CountBelow.{count_sum, count_most, count_one}
use Rattle.base.proofs.SumBelow.{sum_le, sum_same, sum_bound, sum_term, sum_raise, sum_raise_two, sum_even, half_sum}

-- 1 for a listed place, 0 for one that is not
abbrev pub mark : ℕ → ℕ
mark b = cond (ltb 0 b) 1 0

pub mark_none : (b : ℕ) → b ≡ 0 → mark b ≡ 0
mark_none b e = rw (unlisted b e)

pub mark_listed : (b : ℕ) → 0 < b → mark b ≡ 1
mark_listed b h = rw (lt-ltb 0 b h)

-- a place that is kept or struck counts no more than before
pub mark_kept : (b c : ℕ) → (0 < b → b ≡ c) → mark b ≤ mark c
mark_kept b c h =
    case (lt_ge 0 b)
    (λ lt. let e : mark b ≡ mark c = ap mark (h lt) in omega arith)
    (λ ge. let z : b ≡ 0 = omega arith in let e : mark b ≡ 0 = mark_none b z in omega arith)

-- a band that somebody is in
pub in_band_some : (n k : ℕ) (l : List ℕ) (j : ℕ) → j < n → get_or l j 0 ≡ k → 1 ≤ band_size n k l
in_band_some n k l j h e = count_one n _ j h (eq-eqb _ _ e)

-- the places of a square, as 0 and 1
abbrev pub marks : Square → ℕ → ℕ → ℕ
marks t a b = mark (at t a b)

pub entries_marks : (n : ℕ) (t : Square) → entry_count n t ≡ sum_below n (λ a. sum_below n (marks t a))
entries_marks n t = sum_same n _ _ (λ a lt. count_sum n (is_listed (row t a)))

pub length_bound : (n : ℕ) (l : List ℕ) → list_length n l ≤ n
length_bound n l = count_most n (is_listed l)

pub entries_bound : (n : ℕ) (t : Square) → entry_count n t ≤ n * n
entries_bound n t = sum_bound n n _ (λ a lt. length_bound n (row t a))

-- the entries of one list are at most all
pub entries_list : (n : ℕ) (t : Square) (a : ℕ) → a < n → list_length n (row t a) ≤ entry_count n t
entries_list n t a lt = sum_term n (λ c. list_length n (row t c)) a lt

-- m is l with some places struck
abbrev Kept : List ℕ → List ℕ → Type 0
Kept l m = (b : ℕ) → 0 < get_or m b 0 → get_or m b 0 ≡ get_or l b 0

length_kept : (n : ℕ) (l m : List ℕ) → Kept l m → list_length n m ≤ list_length n l
length_kept n l m h = rw (count_sum n (is_listed l), count_sum n (is_listed m)) (sum_le n _ _ (λ b lt. mark_kept _ _ (h b)))

pub entries_kept : (n : ℕ) (t u : Square) → Below (at u) (at t) → entry_count n u ≤ entry_count n t
entries_kept n t u s = sum_le n _ _ (λ a la. length_kept n (row t a) (row u a) (s.kept a))

-- a struck place makes its list shorter
length_struck : (n : ℕ) (l m : List ℕ) (b : ℕ) → b < n → Kept l m → 0 < get_or l b 0 → get_or m b 0 ≡ 0 → list_length n m + 1 ≤ list_length n l
length_struck n l m b lt h was now =
    let old : mark (get_or l b 0) ≡ 1 = mark_listed _ was in
    let new : mark (get_or m b 0) ≡ 0 = mark_none _ now in
    let up : mark (get_or m b 0) + 1 ≤ mark (get_or l b 0) = omega arith in
    rw (count_sum n (is_listed l), count_sum n (is_listed m))
    (sum_raise n (λ c. mark (get_or m c 0)) (λ c. mark (get_or l c 0)) b 1 lt (λ c lc. mark_kept _ _ (h c)) up)

-- a struck pair takes two entries
pub entries_struck : (n : ℕ) (t u : Square) (a b : ℕ) → a < n → b < n → a ≢ b → Below (at u) (at t) → 0 < at t a b → 0 < at t b a → at u a b ≡ 0 → at u b a ≡ 0
    → entry_count n u + 2 ≤ entry_count n t
entries_struck n t u a b la lb ne s ab ba zab zba =
    sum_raise_two n (λ c. list_length n (row u c)) (λ c. list_length n (row t c)) a b 1 la lb ne
    (λ c lc. length_kept n (row t c) (row u c) (s.kept c))
    (length_struck n (row t a) (row u a) b lb (s.kept a) ab zab)
    (length_struck n (row t b) (row u b) a la (s.kept b) ba zba)

-- where listing is mutual and nobody lists itself, the entries come in pairs
pub entries_even : (n : ℕ) (t : Square) → ((a b : ℕ) → 0 < at t a b → 0 < at t b a) → ((a : ℕ) → at t a a ≡ 0) → entry_count n t ≡ 2 * half_sum n (marks t)
entries_even n t both diagonal = entries_marks n t ∙ sum_even n (marks t) across (λ a. mark_none _ (diagonal a))
  where
    across : (a b : ℕ) → marks t a b ≡ marks t b a
    across a b =
        case (lt_ge 0 (at t a b))
        (λ ab. mark_listed _ ab ∙ sym (mark_listed _ (both a b ab)))
        (λ ge.
        case (lt_ge 0 (at t b a))
        (λ ba. let ab : 0 < at t a b = both b a ba in absurd (omega arith))
        (λ ge'. let z : at t a b ≡ 0 = omega arith in let z' : at t b a ≡ 0 = omega arith in mark_none _ z ∙ sym (mark_none _ z')))
