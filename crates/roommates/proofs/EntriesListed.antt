-- An accepted sheet's square lists each of its listed pairs twice, and these are at most half its entries.
use mathlib.Core.Path.{◌≡◌, refl, sym, ◌∙◌, ap}
use mathlib.Core.Bool.{Bool, cond, ◌&&◌}
use mathlib.Core.Logic.{inl, inr}
use mathlib.Core.List.{List, [], ◌∷◌}
use Prim.Native.Nat.{ℕ, suc, ◌+◌, ◌*◌, ◌≤◌, ◌<◌}
use native.Mathlib.Omega.{arith}
use lib.Dec.{ltb}
use lib.ListN.{length}
use borrow.Author.Tests.{lt-ltb, le-ltb}
use Rattle.base.specs.Below.{sum_below}
use Rattle.base.proofs.Cases.{case}
use Rattle.base.proofs.CountBelow.{count_sum}
use Rattle.base.proofs.SumBelow.{sum_same, sum_bound, sum_one_more, sum_cut, half_sum}
use Rattle.sections.specs.declared.Entry.{Entry}
use Rattle.sections.specs.Entries.{band_in, entry_of}
use Rattle.sections.specs.Claims.{Sound, Each, Ascending}
use Rattle.sections.proofs.EntryList.{length_entries}
use Rattle.sections.proofs.BandIn.{band_here, band_elsewhere, band_nowhere}
use Rattle.square.specs.Mutual.{only, returned, mutual_entries}
use Rattle.square.proofs.Only.{band_nil, only_each, only_ascends, only_fewer, only_same, only_none, only_band}
use Rattle.square.proofs.MutualSquare.{both_listed}
use Rattle.sheet.specs.Format.{joints, rank_count, rankings_part, entries_of}
use Rattle.sheet.specs.Refusals.{sheet_fault}
use Rattle.sheet.specs.Square.{at, square_of}
use Rattle.sheet.proofs.PromiseKept.{accepted_promise, accepted_square, square_is_mutual}
use Rattle.roommates.specs.Left.{entry_count}
use Rattle.roommates.specs.Claims.{AllListed, PairsHalf, PairsCounted}
use Rattle.roommates.proofs.EntryCounts.{mark, mark_none, mark_listed, marks, entries_marks, entries_even}

-- the places of the entries, as 0 and 1
abbrev entry_marks : List Entry → ℕ → ℕ → ℕ
entry_marks es a b = mark (band_in es a b)

-- an entry before the others has a place that is none of theirs
first_apart : (e : Entry) (es : List Entry) → Ascending (e ∷ es) → band_in es e.joint e.other ≡ 0
first_apart e es ascending =
    band_nowhere es e.joint e.other λ j l. case (ascending 0 (suc j) (omega arith) (omega arith))
    (λ h. inl (λ i. omega arith))
    (λ h. inr (λ i. let k : e.other < (entry_of es j).other = h.1 in omega arith))

no_marks : (n : ℕ) (f : ℕ → ℕ) → ((i : ℕ) → i < n → f i ≡ 0) → sum_below n f ≡ 0
no_marks n f none = let h : sum_below n f ≤ n * 0 = sum_bound n 0 f (λ i l. omega (arith, none i l)) in omega arith

marks_sum : (n : ℕ) (es : List Entry) → Each (Sound n) es → Ascending es → sum_below n (λ a. sum_below n (entry_marks es a)) ≡ length es
marks_sum n [] each ascending = no_marks n _ λ a l. no_marks n _ λ b k. mark_none _ (band_nil a b)
marks_sum n (e ∷ es) each ascending =
    let first : Sound n e = each 0 (omega arith) in
    let p : ℕ = e.joint in
    let q : ℕ = e.other in
    let here : entry_marks (e ∷ es) p q ≡ entry_marks es p q + 1 =
    let old : entry_marks es p q ≡ 0 = mark_none _ (first_apart e es ascending) in
    let band : band_in (e ∷ es) p q ≡ e.band = band_here e es p q (refl, refl) in
    let some : 1 ≤ e.band = first.band_above in
    let new : entry_marks (e ∷ es) p q ≡ 1 = mark_listed (band_in (e ∷ es) p q) (omega arith) in
    omega arith in
    let its-row : sum_below n (entry_marks (e ∷ es) p) ≡ sum_below n (entry_marks es p) + 1 =
    sum_one_more n (entry_marks es p) (entry_marks (e ∷ es) p) q 1 first.other_below
    (λ b l d. ap mark (band_elsewhere e es p b (inr d))) here in
    let all : sum_below n (λ a. sum_below n (entry_marks (e ∷ es) a)) ≡ sum_below n (λ a. sum_below n (entry_marks es a)) + 1 =
    sum_one_more n (λ a. sum_below n (entry_marks es a)) (λ a. sum_below n (entry_marks (e ∷ es) a)) p 1 first.joint_below
    (λ a l d. sum_same n _ _ (λ b k. ap mark (band_elsewhere e es a b (inl d)))) its-row in
    let rest : sum_below n (λ a. sum_below n (entry_marks es a)) ≡ length es =
    marks_sum n es (λ j l. each (suc j) (omega arith)) (λ i j k l. ascending (suc i) (suc j) (omega arith) (omega arith)) in
    omega arith

-- AN ACCEPTED SHEET
module _ (s : List ℕ) (h : sheet_fault s ≡ 0) where
  abbrev n : ℕ
  n = joints s

  abbrev mutuals : List Entry
  mutuals = mutual_entries (entries_of s)

  -- the entries of the higher joints
  abbrev pairs : List Entry
  pairs = only (λ a b. ltb b a) mutuals

  places : (a b : ℕ) → at (square_of s) a b ≡ band_in mutuals a b
  places a b = square_is_mutual s h a b ∙ sym (only_band (returned (entries_of s)) a b (entries_of s))

  mutual_count : entry_count n (square_of s) ≡ length mutuals
  mutual_count =
      let p = accepted_promise s h in
      entries_marks n (square_of s)
      ∙ sum_same n _ _ (λ a l. sum_same n _ _ (λ b k. ap mark (places a b)))
      ∙ marks_sum n mutuals p.each p.ascending

  -- below the diagonal they are those of the square, elsewhere none
  pair_marks : (a : ℕ) → a < n → sum_below n (entry_marks pairs a) ≡ sum_below a (marks (square_of s) a)
  pair_marks a l =
      sum_cut n a _ _ (omega arith)
      (λ b k. ap mark (only_same (λ i j. ltb j i) a b (lt-ltb b a k) mutuals ∙ sym (places a b)))
      (λ b g. mark_none _ (only_none (λ i j. ltb j i) a b (le-ltb b a g) mutuals))

  pair_count_lem : half_sum n (marks (square_of s)) ≡ length pairs
  unfolding half_sum
  pair_count_lem =
      let p = accepted_promise s h in
      sym (sum_same n _ _ pair_marks)
      ∙ marks_sum n pairs (only_each _ (Sound n) mutuals p.each) (only_ascends _ mutuals p.ascending)

pub all_listed : AllListed
all_listed s h =
    let p = accepted_square s h in
    entries_even (joints s) (square_of s) p.mutual_listing p.not_itself ∙ ap (λ (k : ℕ). 2 * k) (pair_count_lem s h)

pub pairs_half : PairsHalf
pairs_half s h =
    let all = all_listed s h in
    let count = mutual_count s h in
    let fewer = only_fewer (returned (entries_of s)) (entries_of s) in
    let long = length_entries (rank_count s) 0 (rankings_part s) in
    omega arith

pub pairs_counted : PairsCounted
unfolding half_sum
pairs_counted s h =
    let es : List Entry = entries_of s in
    sym (pair_count_lem s h)
    ∙ sum_same (joints s) _ _ (λ a l.
    sum_same a _ _ (λ b k. ap mark (square_is_mutual s h a b) ∙ ap (λ (t : Bool). cond t 1 0) (both_listed es a b))
    ∙ sym (count_sum a (λ b. ltb 0 (band_in es b a) && ltb 0 (band_in es a b))))
