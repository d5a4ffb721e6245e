-- A list's best band as a minimum and its worst as a maximum, as chains of iterators tell them.
use Rattle.std.proofs.Common.{◌≡◌, refl, ◌∙◌, ap, List, [], ◌∷◌, ◌++◌, ℕ, zero, suc, ◌≤◌, ◌<◌, ltb, length, get_or, take, arith}
use Rattle.std.specs.Prelude.{min, max}
use Rattle.std.specs.List.{reduce, fold, filter}
use Rattle.std.specs.Option.{unwrap_or}
use lib.Seq.{take-suc}
use Rattle.std.proofs.lemmas.List.{append-nil}
use Rattle.std.proofs.lemmas.List.Elements.{filter-append}
use Rattle.std.proofs.lemmas.List.Sums.{fold-append}
use mathlib.Core.Logic.{◌⊎◌, inl, inr}
use borrow.Author.Tests.{eq-eqb, ne_eqb, lt-ltb, le-ltb}
use Rattle.base.proofs.Cases.{case, lt_ge}
use Rattle.roommates.specs.Lists.{better_band, best_band, worst_band}

max_more : (xs : List ℕ) (y : ℕ) → unwrap_or (reduce max (xs ++ (y ∷ []))) 0 ≡ max (unwrap_or (reduce max xs) 0) y
max_more [] y = omega arith
max_more (x ∷ xs) y = fold-append max x xs (y ∷ [])

pub worst_taken : (n : ℕ) (l : List ℕ) → n ≤ length l → unwrap_or (reduce max (take n l)) 0 ≡ worst_band n l
unfolding worst_band
worst_taken zero l h = refl
worst_taken (suc i) l h =
    rw (take-suc l i 0 (omega arith)) (max_more (take i l) (get_or l i 0) ∙ ap (λ (w : ℕ). max w (get_or l i 0)) (worst_taken i l (omega arith)))

abbrev best_of : List ℕ → ℕ
best_of xs = unwrap_or (reduce min (filter (λ b. ltb 0 b) xs)) 0

-- a minimum of bands stays one
still_some : (k : ℕ) (xs : List ℕ) → 0 < k → 0 < fold min k (filter (λ b. ltb 0 b) xs)
still_some k [] h = h
still_some k (x ∷ xs) h =
    case (lt_ge 0 x) (λ b. rw (lt-ltb 0 x b) (still_some (min k x) xs (omega arith))) (λ z. rw (le-ltb 0 x z) (still_some k xs h))

none_or_some : (xs : List ℕ) → (filter (λ b. ltb 0 b) xs ≡ []) ⊎ (0 < best_of xs)
none_or_some [] = inl refl
none_or_some (x ∷ xs) = case (lt_ge 0 x) (λ b. rw (lt-ltb 0 x b) (inr (still_some x xs b))) (λ z. rw (le-ltb 0 x z) (none_or_some xs))

min_more : (xs : List ℕ) (y : ℕ) → 0 < unwrap_or (reduce min xs) 0 → unwrap_or (reduce min (xs ++ (y ∷ []))) 0 ≡ min (unwrap_or (reduce min xs) 0) y
min_more [] y h = omega arith
min_more (x ∷ xs) y h = fold-append min x xs (y ∷ [])

lesser : (k b : ℕ) → 0 < k → 0 < b → min k b ≡ better_band k b
lesser k b h g =
    case (lt_ge b k)
    (λ l. rw (ne_eqb b 0 (λ e. omega arith), ne_eqb k 0 (λ e. omega arith), lt-ltb b k l) (omega arith))
    (λ l. rw (ne_eqb b 0 (λ e. omega arith), ne_eqb k 0 (λ e. omega arith), le-ltb b k l) (omega arith))

best_more : (xs : List ℕ) (y : ℕ) → best_of (xs ++ (y ∷ [])) ≡ better_band (best_of xs) y
best_more xs y =
    case (lt_ge 0 y)
    (λ some.
    let e : filter (λ b. ltb 0 b) (xs ++ (y ∷ [])) ≡ filter (λ b. ltb 0 b) xs ++ (y ∷ []) = rw (lt-ltb 0 y some) at (filter-append (λ b. ltb 0 b) xs (y ∷ [])) in
    case (none_or_some xs)
    (λ n. rw (e, n, ne_eqb y 0 (λ z. omega arith)))
    (λ h. rw e (min_more (filter (λ b. ltb 0 b) xs) y h ∙ lesser (best_of xs) y h some)))
    (λ none.
    let e : filter (λ b. ltb 0 b) (xs ++ (y ∷ [])) ≡ filter (λ b. ltb 0 b) xs ++ [] = rw (le-ltb 0 y none) at (filter-append (λ b. ltb 0 b) xs (y ∷ [])) in
    rw (e, append-nil, eq-eqb y 0 (omega arith)))

pub best_taken : (n : ℕ) (l : List ℕ) → n ≤ length l → best_of (take n l) ≡ best_band n l
unfolding best_band
best_taken zero l h = refl
best_taken (suc i) l h =
    rw (take-suc l i 0 (omega arith)) (best_more (take i l) (get_or l i 0) ∙ ap (λ (w : ℕ). better_band w (get_or l i 0)) (best_taken i l (omega arith)))
