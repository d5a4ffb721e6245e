-- What chains of iterators over numbers and slices tell, in the words of `Below`: each premise is what `search (rules, ranges)` finds.
use Rattle.std.proofs.Common.{◌≡◌, ℕ, zero, suc, ◌<◌, ◌≤◌, Bool, true, false, List, length, get_or, take, count_by, Option, Some, None, IfSome}
use Rattle.std.proofs.Common.{refl, sym, ◌∙◌, ap, arith, add-one}
use borrow.Author.Tests.{lt-ltb, le-ltb}
use Rattle.std.specs.List.{range_with_len}
use Rattle.std.proofs.Math.Seq.{take-length}
use Rattle.std.proofs.lemmas.List.FromFn.{length-range_with_len, get_or-range_with_len}
use Rattle.std.proofs.lemmas.List.Sums.{count_by_more_yes, count_by_more_no}
use Rattle.base.specs.Below.{any_below, all_below, count_below, lowest, first_below}
use Rattle.base.proofs.Cases.{case, both_ways, lt_ge}
use Rattle.base.proofs.AnyBelow.{any_hit, none_any}
use Rattle.base.proofs.AllBelow.{all_pass, all_miss}
use Rattle.base.proofs.CountBelow.{count_zero, count_hit, count_miss, count_same}
use Rattle.base.proofs.Lowest.{lowest_law, lowest_below, lowest_passes, some_passes}
use Rattle.base.proofs.Tests.{never}

module _ (n : ℕ) (test : ℕ → Bool) where
  pub any_told : (r : Bool) → (r ≡ true → (j : ℕ) × (j < n) × (test j ≡ true)) → (r ≡ false → (j : ℕ) → j < n → test j ≡ false)
      → r ≡ any_below n test
  any_told r hit none =
      case (both_ways r)
      (λ e. let h : (j : ℕ) × (j < n) × (test j ≡ true) = hit e in e ∙ sym (any_hit n test h.0 h.1 h.2))
      (λ e. e ∙ sym (none_any n test (none e)))

  pub all_told : (r : Bool) → (r ≡ true → (j : ℕ) → j < n → test j ≡ true) → (r ≡ false → (j : ℕ) × (j < n) × (test j ≡ false))
      → r ≡ all_below n test
  all_told r pass miss =
      case (both_ways r)
      (λ e. e ∙ sym (all_pass n test (pass e)))
      (λ e. let h : (j : ℕ) × (j < n) × (test j ≡ false) = miss e in e ∙ sym (all_miss n test h.0 h.1 h.2))

  pub first_told : (r : Option ℕ) → ((i : ℕ) → r ≡ Some i → i < n) → ((i : ℕ) → r ≡ Some i → test i ≡ true)
      → ((i : ℕ) → r ≡ Some i → (j : ℕ) → j < i → test j ≡ false) → (r ≡ None → (j : ℕ) → j < n → test j ≡ false) → r ≡ first_below n test
  first_told None inside passes before none =
      let law = lowest_law n test in
      let e : lowest n test ≡ n =
      case (lt_ge (lowest n test) n) (λ l. absurd (never _ (law.passes l) (none refl (lowest n test) l))) (λ g. omega (arith, law.at_most)) in
      rw (e, le-ltb n n (omega arith)) refl
  first_told (Some i) inside passes before none =
      let low = lowest_below n test i (passes i refl) in
      let l = some_passes n test i (inside i refl) (passes i refl) in
      let e : lowest n test ≡ i =
      case (lt_ge (lowest n test) i) (λ m. absurd (never _ (lowest_passes n test l) (before i refl (lowest n test) m))) (λ g. omega arith) in
      rw (e, lt-ltb i n (inside i refl)) refl

-- .. for a test that the search does not look into: by what the chain's run had at each place, `c.any.ensures.runs.0.at` and the like
seen : {b : Bool} (test : ℕ → Bool) (f : Option ℕ) (j : ℕ) → f ≡ Some j → IfSome f (λ x. test x ≡ b) → test j ≡ b
seen test f j e h = rw e at h

module _ (n : ℕ) (test : ℕ → Bool) (at : ℕ → Option ℕ) where
  pub any_seen : (r : Bool) → (r ≡ true → (j : ℕ) × (j < n) × (test j ≡ true)) → (r ≡ false → (j : ℕ) → j < n → at j ≡ Some j)
      → (r ≡ false → (j : ℕ) → j < n → IfSome (at j) (λ x. test x ≡ false)) → r ≡ any_below n test
  any_seen r hit at_place fails = any_told n test r hit (λ e j l. seen test (at j) j (at_place e j l) (fails e j l))

  pub all_seen : (r : Bool) → (r ≡ true → (j : ℕ) → j < n → at j ≡ Some j) → (r ≡ true → (j : ℕ) → j < n → IfSome (at j) (λ x. test x ≡ true))
      → (r ≡ false → (j : ℕ) × (j < n) × (test j ≡ false)) → r ≡ all_below n test
  all_seen r at_place passes miss = all_told n test r (λ e j l. seen test (at j) j (at_place e j l) (passes e j l)) miss

-- a count over the first n of a slice
pub count_taken : (n : ℕ) (p : ℕ → Bool) (l : List ℕ) → n ≤ length l → count_by p (take n l) ≡ count_below n (λ b. p (get_or l b 0))
count_taken zero p l h = sym (count_zero (λ b. p (get_or l b 0)))
count_taken (suc n) p l h =
    let e = count_taken n p l (omega arith) in
    rw (← add-one n)
    (case (both_ways (p (get_or l n 0)))
    (λ t. count_by_more_yes p l n 0 (omega arith) t ∙ count_hit n (λ b. p (get_or l b 0)) e t)
    (λ t. count_by_more_no p l n 0 (omega arith) t ∙ count_miss n (λ b. p (get_or l b 0)) e t))

-- .. and over a range
pub count_range : (n : ℕ) (p : ℕ → Bool) → count_by p (range_with_len 0 n) ≡ count_below n p
count_range n p =
    let l = range_with_len 0 n in
    let long : length l ≡ n = length-range_with_len 0 n in
    let all : count_by p (take (length l) l) ≡ count_below (length l) (λ b. p (get_or l b 0)) = count_taken (length l) p l (omega arith) in
    let there = λ (b : ℕ) (h : b < n). let e : get_or l b 0 ≡ b = omega (arith, get_or-range_with_len 0 n b 0 h) in ap p e in
    (rw (take-length, long) at all) ∙ count_same n _ _ there
