-- The shortened lists as they are written: how long they are, and that they depend on the places below n only.
use mathlib.Core.Path.{◌≡◌, refl, ap, sym, ◌∙◌}
use mathlib.Core.Bool.{Bool, true, false, cond}
use mathlib.Core.List.{List, [], ◌∷◌}
use Prim.Native.Nat.{ℕ, zero, suc, ◌+◌, ◌*◌, ◌<◌}
use native.Mathlib.Omega.{arith}
use lib.Dec.{ltb}
use lib.ListN.{length, get_or}
use Rattle.sheet.specs.Square.{at}
use Rattle.base.specs.Below.{sum_below}
use Rattle.base.proofs.CountBelow.{ones, count_sum, count_same}
use Rattle.base.proofs.SumBelow.{sum_same}
use Rattle.base.proofs.Joined.{joined_length, joined_same}
use Rattle.roommates.specs.Lists.{Square, row, is_listed, list_length}
use Rattle.roommates.specs.Left.{entry, row_entries, entries, entry_count, list_bytes}

-- three bytes for an entry
three : (n : ℕ) (f : ℕ → ℕ) → sum_below n (λ b. 3 * f b) ≡ 3 * sum_below n f
unfolding sum_below
three zero f = refl
three (suc i) f = let rest = three i f in omega arith

pub entry_length : (a : ℕ) (l : List ℕ) (b : ℕ) → length (entry a l b) ≡ 3 * ones (is_listed l) b
unfolding entry
entry_length a l b = by_test (is_listed l b)
  where
    by_test : (e : Bool) → length (cond e (a ∷ (b ∷ (get_or l b 0 ∷ []))) []) ≡ 3 * cond e 1 0
    by_test true = refl
    by_test false = refl

pub row_length : (n a : ℕ) (l : List ℕ) → length (row_entries n a l) ≡ 3 * list_length n l
row_length n a l =
    joined_length n (entry a l)
    ∙ sum_same n _ _ (λ b lt. entry_length a l b)
    ∙ three n (ones (is_listed l))
    ∙ ap (λ s. 3 * s) (sym (count_sum n (is_listed l)))

pub entries_length : (n : ℕ) (t : Square) → length (entries n t) ≡ 3 * entry_count n t
entries_length n t =
    joined_length n (λ a. row_entries n a (row t a))
    ∙ sum_same n _ _ (λ a lt. row_length n a (row t a))
    ∙ three n (λ a. list_length n (row t a))

pub bytes_length : (n : ℕ) (t : Square) → length (list_bytes n t) ≡ 2 + 3 * entry_count n t
unfolding list_bytes
bytes_length n t = let e = entries_length n t in omega arith

-- They depend on the places below n only.
abbrev pub Agree : ℕ → Square → Square → Type 0
Agree n t u = (a b : ℕ) → a < n → b < n → at t a b ≡ at u a b

entry_same : (a : ℕ) (l m : List ℕ) (b : ℕ) → get_or l b 0 ≡ get_or m b 0 → entry a l b ≡ entry a m b
unfolding entry
entry_same a l m b h = rw h

module _ (n : ℕ) (t u : Square) (h : Agree n t u) where
  count_agrees : entry_count n t ≡ entry_count n u
  count_agrees = sum_same n _ _ (λ a la. count_same n _ _ (λ b lb. ap (ltb 0) (h a b la lb)))

  entries_agree : entries n t ≡ entries n u
  entries_agree = joined_same n _ _ (λ a la. joined_same n _ _ (λ b lb. entry_same a (row t a) (row u a) b (h a b la lb)))

  pub bytes_same : list_bytes n t ≡ list_bytes n u
  unfolding list_bytes
  bytes_same = rw (count_agrees, entries_agree)
