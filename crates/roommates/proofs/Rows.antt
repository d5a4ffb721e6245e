-- What the definitions over one list say of its places below n: its length, its best and its worst band.
use mathlib.Core.Path.{◌≡◌, refl, sym, ◌∙◌}
use mathlib.Core.Bool.{true}
use mathlib.Core.Logic.{◌⊎◌, inl, inr, ◌≢◌}
use mathlib.Core.List.{List}
use Prim.Native.Nat.{ℕ, zero, suc, ◌≤◌, ◌<◌}
use native.Mathlib.Omega.{arith}
use lib.Dec.{ltb}
use lib.ListN.{get_or}
use borrow.Author.Tests.{ltb-true, lt-ltb, le-ltb, eq-eqb, ne_eqb}
use Rattle.base.proofs.Cases.{case, lt_ge, eq_ne, below_suc}
use Rattle.roommates.specs.Lists.{list_length, better_band, best_band, worst_band}
use Rattle.base.proofs.CountBelow.{counted, count_one, two_counted, count_two, Two}

module _ (n : ℕ) (l : List ℕ) where
  pub some_listed : 1 ≤ list_length n l → (j : ℕ) × (j < n) × (0 < get_or l j 0)
  some_listed h =
      let r : (j : ℕ) × (j < n) × (ltb 0 (get_or l j 0) ≡ true) = counted n _ h in
      (r.0, r.1, ltb-true 0 (get_or l r.0 0) r.2)

  pub listed_some : (j : ℕ) → j < n → 0 < get_or l j 0 → 1 ≤ list_length n l
  listed_some j h e = count_one n _ j h (lt-ltb 0 (get_or l j 0) e)

  pub empty_places : list_length n l ≡ 0 → (j : ℕ) → j < n → get_or l j 0 ≡ 0
  empty_places e j h =
      case (lt_ge 0 (get_or l j 0))
      (λ m. let r : 1 ≤ list_length n l = listed_some j h m in omega arith)
      (λ m. omega arith)

  pub two_listed : 2 ≤ list_length n l → (i : ℕ) × (j : ℕ) × (i < n) × (j < n) × (i ≢ j) × (0 < get_or l i 0) × (0 < get_or l j 0)
  two_listed h =
      let r : Two n (λ j. ltb 0 (get_or l j 0)) = two_counted n _ h in
      (r.0, r.1, r.2, r.3, r.4, ltb-true 0 (get_or l r.0 0) r.5, ltb-true 0 (get_or l r.1 0) r.6)

  pub listed_two : (i j : ℕ) → i < n → j < n → i ≢ j → 0 < get_or l i 0 → 0 < get_or l j 0 → 2 ≤ list_length n l
  listed_two i j h k d e f = count_two n _ i j h k d (lt-ltb 0 (get_or l i 0) e) (lt-ltb 0 (get_or l j 0) f)

-- the better of k, which is 0 for none, and one more place b, which is 0 for unlisted
better_law : (k b : ℕ) → ((b ≡ 0) × (better_band k b ≡ k))
    ⊎ (((0 < b) × (k ≡ 0) × (better_band k b ≡ b)) ⊎ (((0 < b) × (b < k) × (better_band k b ≡ b)) ⊎ ((0 < k) × (k ≤ b) × (better_band k b ≡ k))))
better_law k b =
    case (eq_ne b 0)
    (λ e. inl (e, rw (eq-eqb b 0 e) refl))
    (λ e. case (eq_ne k 0)
    (λ f. inr (inl (omega arith, f, rw (ne_eqb b 0 e, eq-eqb k 0 f) refl)))
    (λ f. case (lt_ge b k)
    (λ g. inr (inr (inl (omega arith, g, rw (ne_eqb b 0 e, ne_eqb k 0 f, lt-ltb b k g) refl))))
    (λ g. inr (inr (inr (omega arith, g, rw (ne_eqb b 0 e, ne_eqb k 0 f, le-ltb b k g) refl))))))

better_than_old : (k b : ℕ) → 0 < k → (0 < better_band k b) × (better_band k b ≤ k)
better_than_old k b h =
    case (better_law k b) (λ m. omega arith) (λ m. case m (λ m. omega arith) (λ m. case m (λ m. omega arith) (λ m. omega arith)))

better_than_new : (k b : ℕ) → 0 < b → (0 < better_band k b) × (better_band k b ≤ b)
better_than_new k b h =
    case (better_law k b) (λ m. omega arith) (λ m. case m (λ m. omega arith) (λ m. case m (λ m. omega arith) (λ m. omega arith)))

old_or_new : (k b : ℕ) → (better_band k b ≡ k) ⊎ (better_band k b ≡ b)
old_or_new k b = case (better_law k b) (λ m. inl m.1) (λ m. case m (λ m. inr m.2) (λ m. case m (λ m. inr m.2) (λ m. inl m.2)))

pub best_least : (n : ℕ) (l : List ℕ) (j : ℕ) → j < n → 0 < get_or l j 0 → (0 < best_band n l) × (best_band n l ≤ get_or l j 0)
unfolding best_band
best_least zero l j h e = absurd (omega arith)
best_least (suc i) l j h e =
    case (below_suc h)
    (λ m. rw m (better_than_new (best_band i l) (get_or l i 0) (rw m at e)))
    (λ m.
    let r : (0 < best_band i l) × (best_band i l ≤ get_or l j 0) = best_least i l j m e in
    let s : (0 < better_band (best_band i l) (get_or l i 0)) × (better_band (best_band i l) (get_or l i 0) ≤ best_band i l)
    = better_than_old (best_band i l) (get_or l i 0) r.0 in
    omega arith)

pub best_attained : (n : ℕ) (l : List ℕ) → 0 < best_band n l → (j : ℕ) × (j < n) × (get_or l j 0 ≡ best_band n l)
unfolding best_band
best_attained zero l h = absurd (omega arith)
best_attained (suc i) l h =
    case (old_or_new (best_band i l) (get_or l i 0))
    (λ e.
    let r : (j : ℕ) × (j < i) × (get_or l j 0 ≡ best_band i l) = best_attained i l (rw e at h) in
    (r.0, omega arith, r.2 ∙ sym e))
    (λ e. (i, omega arith, sym e))

pub worst_most : (n : ℕ) (l : List ℕ) (j : ℕ) → j < n → get_or l j 0 ≤ worst_band n l
unfolding worst_band
worst_most zero l j h = absurd (omega arith)
worst_most (suc i) l j h =
    case (below_suc h)
    (λ m. rw m (omega arith))
    (λ m. let r : get_or l j 0 ≤ worst_band i l = worst_most i l j m in omega arith)

pub worst_attained : (n : ℕ) (l : List ℕ) → 0 < worst_band n l → (j : ℕ) × (j < n) × (get_or l j 0 ≡ worst_band n l)
unfolding worst_band
worst_attained zero l h = absurd (omega arith)
worst_attained (suc i) l h =
    case (lt_ge (get_or l i 0) (worst_band i l))
    (λ m.
    let r : (j : ℕ) × (j < i) × (get_or l j 0 ≡ worst_band i l) = worst_attained i l (omega arith) in
    (r.0, omega arith, omega arith))
    (λ m. (i, omega arith, omega arith))
