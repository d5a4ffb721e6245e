-- An entry's bytes, and those of the shortened lists.
use mathlib.Core.Path.{◌≡◌, refl, ap, ◌∙◌}
use mathlib.Core.List.{List, [], ◌∷◌, ◌++◌}
use Prim.Native.Nat.{ℕ, zero, suc, ◌+◌, ◌/◌, ◌%◌, ◌≤◌}
use native.Mathlib.Nat.{mul-le-mul}
use native.Mathlib.Omega.{arith}
use native.Mathlib.Numerals.{add-one}
use lib.ListN.{length, get_or, take}
use borrow.Author.Tests.{eq-eqb, ne_eqb, lt-ltb, le-ltb, ltb-true}
use Rattle.std.specs.Prelude.{Option, MatchOption}
use Rattle.std.specs.List.{sum_by}
use Rattle.std.proofs.lemmas.List.Sums.{sum_by_more}
use Rattle.base.specs.Below.{lowest, first_below, sum_below}
use Rattle.base.proofs.Cases.{case, lt_ge}
use Rattle.base.proofs.Lowest.{some_passes, lowest_passes}
use Rattle.roommates.proofs.Rows.{some_listed, listed_some}
use Rattle.base.proofs.Tests.{listed, unlisted}
use Rattle.roommates.specs.Lists.{Square, row, is_listed, list_length}
use Rattle.roommates.specs.Left.{partner_on, entry, entries, entry_count, list_bytes}
use Rattle.roommates.proofs.EntryCounts.{entries_bound}

module _ (a : ℕ) (l : List ℕ) (b : ℕ) where
  pub entry_none : get_or l b 0 ≡ 0 → entry a l b ≡ []
  unfolding entry
  entry_none h = rw (unlisted (get_or l b 0) h)

  pub entry_some : (get_or l b 0 ≡ 0 → ⊥) → entry a l b ≡ a ∷ (b ∷ (get_or l b 0 ∷ []))
  unfolding entry
  entry_some h = rw (listed (get_or l b 0) h)

-- what a search for the lowest joint on a list ends in: the byte of no joint, or what is told of the joint that it found
module _ (n : ℕ) (l : List ℕ) {r : Option ℕ} (found : r ≡ first_below n (is_listed l)) {x : ℕ} (P : ℕ → Type 0)
    (told : MatchOption r (x ≡ 255) P) (same : (b : ℕ) → P b → x ≡ b) where
  pub partner_told : x ≡ partner_on n l
  unfolding partner_on
  partner_told =
      case (lt_ge (lowest n (is_listed l)) n)
      (λ h. let is : P (lowest n (is_listed l)) = rw (found, lt-ltb (lowest n (is_listed l)) n h) at told in
      let listed = listed_some n l (lowest n (is_listed l)) h (ltb-true 0 (get_or l (lowest n (is_listed l)) 0) (lowest_passes n (is_listed l) h)) in
      rw (ne_eqb (list_length n l) 0 (λ z. omega arith)) (same _ is))
      (λ h. let is : x ≡ 255 = rw (found, le-ltb (lowest n (is_listed l)) n h) at told in
      case (lt_ge 0 (list_length n l))
      (λ some. let j = some_listed n l some in absurd (omega (arith, some_passes n (is_listed l) j.0 j.1 (lt-ltb 0 (get_or l j.0 0) j.2))))
      (λ none. rw (eq-eqb (list_length n l) 0 (omega arith)) is))

-- a sum over the first m rows
pub sum_taken : (m : ℕ) (f : List ℕ → ℕ) (t : Square) → m ≤ length t → sum_by f (take m t) ≡ sum_below m (λ a. f (row t a))
unfolding sum_below
sum_taken zero f t h = refl
sum_taken (suc m) f t h =
    let more : sum_by f (take (suc m) t) ≡ sum_by f (take m t) + f (row t m) = rw add-one at (sum_by_more f t m [] (omega arith)) in
    more ∙ ap (λ (s : ℕ). s + f (row t m)) (sum_taken m f t (omega arith))

-- a count of entries is small, and its two bytes and the entries are the lists
pub count_small : (n : ℕ) (t : Square) {k : ℕ} → n ≤ 128 → k ≡ entry_count n t → k ≤ 16384
count_small n t few e = omega (arith, entries_bound n t, mul-le-mul few few)

pub lists_are : (n : ℕ) (t : Square) {k : ℕ} {b : List ℕ} → k ≡ entry_count n t → k ≤ 16384 → b ≡ (k % 256) ∷ (((k / 256) % 256) ∷ []) → list_bytes n t ≡ b ++ entries n t
unfolding list_bytes
lists_are n t {k} e h is =
    let high : k / 256 % 256 ≡ k / 256 = omega arith in
    rw (is, high, e) refl
