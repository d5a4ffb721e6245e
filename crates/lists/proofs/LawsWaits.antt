-- Whether a joint waits, by one walk of its list: is anything on it, and is its last band there?
use Rattle.std.proofs.Common.{◌≡◌, refl, sym, List, [], ◌∷◌, ℕ, zero, suc, ◌+◌, ◌≤◌, Bool, true, false, ◌||◌, ltb, length, get_or, take, add-one, arith}
use mathlib.Core.Bool.{not, or-true, or-false}
use lib.Dec.{leb, eqb}
use Rattle.std.specs.List.{fold}
use lib.Seq.{take-suc}
use Rattle.std.proofs.lemmas.List.Sums.{fold-append}
use borrow.Author.Tests.{eq-eqb, lt-ltb, le-ltb, le-leb, lt-leb}
use Rattle.base.specs.Below.{any_below}
use Rattle.base.proofs.Cases.{case, lt_ge}
use Rattle.base.proofs.AnyBelow.{none_any, any_agree}
use Rattle.base.proofs.CountBelow.{count_zero, count_hit, count_miss}
use Rattle.roommates.specs.Lists.{is_listed, list_length}
use Rattle.roommates.specs.PhaseOne.{any_stands, list_waits}

-- one more joint on the list
listed_more : (i : ℕ) (l : List ℕ) {s : Bool} → s ≡ leb 1 (list_length i l) → (s || ltb 0 (get_or l i 0)) ≡ leb 1 (list_length (i + 1) l)
listed_more i l e =
    case (lt_ge 0 (get_or l i 0))
    (λ some. let h = lt-ltb 0 (get_or l i 0) some in rw (h, ← count_hit i (is_listed l) refl h, or-true) (sym (le-leb 1 (list_length i l + 1) (omega arith))))
    (λ none. let h = le-ltb 0 (get_or l i 0) none in rw (h, ← count_miss i (is_listed l) refl h, or-false) e)

-- a step of the walk, and what it has found behind n joints
abbrev pub walk : ℕ → Bool × Bool → ℕ → Bool × Bool
walk k s b = (s.0 || ltb 0 b, s.1 || eqb b k)

abbrev pub walked : ℕ → ℕ → List ℕ → Bool × Bool
walked n k l = fold (walk k) (false, false) (take n l)

-- is anything of band k there?
abbrev reached : ℕ → ℕ → List ℕ → Bool
reached n k l = any_below n (λ b. eqb (get_or l b 0) k)

walk_more : (i k : ℕ) (l : List ℕ) → suc i ≤ length l → walked (suc i) k l ≡ walk k (walked i k l) (get_or l i 0)
walk_more i k l h =
    rw (take-suc l i 0 (omega arith)) (fold-append (walk k) (false, false) (take i l) (get_or l i 0 ∷ []))

walk_listed : (n k : ℕ) (l : List ℕ) → n ≤ length l → (walked n k l).0 ≡ leb 1 (list_length n l)
walk_listed zero k l h = rw (count_zero (is_listed l))
walk_listed (suc i) k l h = rw (walk_more i k l h) (rw add-one at (listed_more i l (walk_listed i k l (omega arith))))

walk_reached : (n k : ℕ) (l : List ℕ) → n ≤ length l → (walked n k l).1 ≡ reached n k l
unfolding any_below
walk_reached zero k l h = refl
walk_reached (suc i) k l h = rw (walk_more i k l h, walk_reached i k l (omega arith)) refl

-- before its first step a joint has no proposal standing
none_stands : (n k : ℕ) (l : List ℕ) → k ≡ 0 → any_stands n k l ≡ false
none_stands n k l e = none_any n _ (λ b lt. rw (lt-leb 1 k (omega arith)))

module _ (n k : ℕ) (l : List ℕ) (few : n ≤ length l) {r : Bool × Bool} (e : r ≡ walked n k l) where
  pub waits_unlisted : r.0 ≡ false → r.0 ≡ list_waits n k l
  unfolding list_waits
  waits_unlisted h = let m : r.0 ≡ leb 1 (list_length n l) = rw e (walk_listed n k l few) in rw (← m, h)

  pub waits_fresh : r.0 ≡ true → k ≡ 0 → eqb k 0 ≡ list_waits n k l
  unfolding list_waits
  waits_fresh h z = let m : r.0 ≡ leb 1 (list_length n l) = rw e (walk_listed n k l few) in rw (← m, h, none_stands n k l z, eq-eqb k 0 z)

  pub waits_stepped : r.0 ≡ true → 1 ≤ k → not r.1 ≡ list_waits n k l
  unfolding list_waits
  waits_stepped h some =
      let m : r.0 ≡ leb 1 (list_length n l) = rw e (walk_listed n k l few) in
      let s : r.1 ≡ reached n k l = rw e (walk_reached n k l few) in
      let t : any_stands n k l ≡ reached n k l = any_agree n _ _ (λ b lt. rw (le-leb 1 k some)) in
      rw (← m, h, t, s)
