-- Laws of `sum_below`: the one place where the counting arguments do their induction.
use mathlib.Core.Path.{◌≡◌, refl, ap, ap₂, subst}
use mathlib.Core.Logic.{◌≢◌}
use Prim.Native.Nat.{ℕ, zero, suc, ◌+◌, ◌*◌, ◌≤◌, ◌<◌}
use native.Mathlib.Numerals.{add-one}
use native.Mathlib.Omega.{arith}
use Rattle.base.specs.Below.{sum_below}
use Rattle.base.proofs.Cases.{case, lt_ge, eq_ne}

-- f is at most g at every place below n
abbrev pub Under : ℕ → (ℕ → ℕ) → (ℕ → ℕ) → Type 0
Under n f g = (i : ℕ) → i < n → f i ≤ g i

pub under_less : (n : ℕ) (f g : ℕ → ℕ) → Under (suc n) f g → Under n f g
under_less n f g h i lt = h i (omega arith)

pub sum_le : (n : ℕ) (f g : ℕ → ℕ) → Under n f g → sum_below n f ≤ sum_below n g
unfolding sum_below
sum_le zero f g h = omega arith
sum_le (suc n) f g h =
    let rest : sum_below n f ≤ sum_below n g = sum_le n f g (under_less n f g h) in
    let here : f n ≤ g n = h n (omega arith) in
    omega arith

pub sum_same : (n : ℕ) (f g : ℕ → ℕ) → ((i : ℕ) → i < n → f i ≡ g i) → sum_below n f ≡ sum_below n g
unfolding sum_below
sum_same zero f g h = refl
sum_same (suc n) f g h = ap₂ ◌+◌ (sum_same n f g (λ i lt. h i (omega arith))) (h n (omega arith))

pub sum_add : (n : ℕ) (f g : ℕ → ℕ) → sum_below n (λ i. f i + g i) ≡ sum_below n f + sum_below n g
unfolding sum_below
sum_add zero f g = omega arith
sum_add (suc n) f g =
    let rest : sum_below n (λ i. f i + g i) ≡ sum_below n f + sum_below n g = sum_add n f g in
    omega arith

-- in a loop
pub sum_zero : (f : ℕ → ℕ) → sum_below 0 f ≡ 0
unfolding sum_below
sum_zero f = refl

pub sum_next : (i : ℕ) (f : ℕ → ℕ) → sum_below (i + 1) f ≡ sum_below i f + f i
unfolding sum_below
sum_next i f = rw (add-one i)

-- a sum over more numbers is no less
pub sum_grows : (n i : ℕ) (f : ℕ → ℕ) → i ≤ n → sum_below i f ≤ sum_below n f
unfolding sum_below
sum_grows zero i f h = let e : i ≡ 0 = omega arith in rw e (omega arith)
sum_grows (suc n) i f h =
    case (eq_ne i (suc n)) (λ e. rw e (omega arith)) (λ d. let g = sum_grows n i f (omega arith) in omega arith)

-- n terms of at most m each
pub sum_bound : (n m : ℕ) (f : ℕ → ℕ) → ((i : ℕ) → i < n → f i ≤ m) → sum_below n f ≤ n * m
unfolding sum_below
sum_bound zero m f h = omega arith
sum_bound (suc n) m f h =
    let rest : sum_below n f ≤ n * m = sum_bound n m f (λ i lt. h i (omega arith)) in
    let here : f n ≤ m = h n (omega arith) in
    omega arith

-- one term is at most the sum
pub sum_term : (n : ℕ) (f : ℕ → ℕ) (p : ℕ) → p < n → f p ≤ sum_below n f
unfolding sum_below
sum_term zero f p lt = absurd (omega arith)
sum_term (suc n) f p lt =
    case (eq_ne p n)
    (λ e. let here : f p ≡ f n = ap f e in omega arith)
    (λ d. let rest : f p ≤ sum_below n f = sum_term n f p (omega arith) in omega arith)

-- a term that is greater by d, and no other different
pub sum_one_more : (n : ℕ) (f g : ℕ → ℕ) (p d : ℕ) → p < n → ((i : ℕ) → i < n → i ≢ p → g i ≡ f i) → g p ≡ f p + d → sum_below n g ≡ sum_below n f + d
unfolding sum_below
sum_one_more zero f g p d lt same up = absurd (omega arith)
sum_one_more (suc n) f g p d lt same up =
    case (eq_ne p n)
    (λ e.
    let rest : sum_below n g ≡ sum_below n f = sum_same n g f (λ i l. same i (omega arith) (omega arith)) in
    let here : g n ≡ f n + d = rw e at up in
    omega arith)
    (λ ne.
    let rest : sum_below n g ≡ sum_below n f + d = sum_one_more n f g p d (omega arith) (λ i l. same i (omega arith)) up in
    let here : g n ≡ f n = same n (omega arith) (omega arith) in
    omega arith)

-- a term that grows by d raises the sum by d, where no other gets less
pub sum_raise : (n : ℕ) (f g : ℕ → ℕ) (p d : ℕ) → p < n → Under n f g → f p + d ≤ g p → sum_below n f + d ≤ sum_below n g
unfolding sum_below
sum_raise zero f g p d lt h up = absurd (omega arith)
sum_raise (suc n) f g p d lt h up =
    case (eq_ne p n)
    (λ e.
    let rest : sum_below n f ≤ sum_below n g = sum_le n f g (under_less n f g h) in
    let here : f n + d ≤ g n = subst (λ (i : ℕ). f i + d ≤ g i) e up in
    omega arith)
    (λ ne.
    let rest : sum_below n f + d ≤ sum_below n g = sum_raise n f g p d (omega arith) (under_less n f g h) up in
    let here : f n ≤ g n = h n (omega arith) in
    omega arith)

-- .. and two such terms raise it by both
raise_below : (n : ℕ) (f g : ℕ → ℕ) (p q d : ℕ) → p < q → q < n → Under n f g → f p + d ≤ g p → f q + d ≤ g q
    → sum_below n f + (d + d) ≤ sum_below n g
unfolding sum_below
raise_below zero f g p q d pq lt h up vp = absurd (omega arith)
raise_below (suc n) f g p q d pq lt h up vp =
    case (eq_ne q n)
    (λ e.
    let rest : sum_below n f + d ≤ sum_below n g = sum_raise n f g p d (omega arith) (under_less n f g h) up in
    let here : f n + d ≤ g n = subst (λ (i : ℕ). f i + d ≤ g i) e vp in
    omega arith)
    (λ ne.
    let rest : sum_below n f + (d + d) ≤ sum_below n g = raise_below n f g p q d pq (omega arith) (under_less n f g h) up vp in
    let here : f n ≤ g n = h n (omega arith) in
    omega arith)

pub sum_raise_two : (n : ℕ) (f g : ℕ → ℕ) (p q d : ℕ) → p < n → q < n → p ≢ q → Under n f g → f p + d ≤ g p → f q + d ≤ g q
    → sum_below n f + (d + d) ≤ sum_below n g
sum_raise_two n f g p q d lp lq ne h up vp =
    case (lt_ge p q)
    (λ lt. raise_below n f g p q d lt lq h up vp)
    (λ ge. raise_below n f g q p d (omega arith) lp h vp up)

-- a sum of terms that are nought from a on
pub sum_cut : (n a : ℕ) (f g : ℕ → ℕ) → a ≤ n → ((i : ℕ) → i < a → f i ≡ g i) → ((i : ℕ) → a ≤ i → f i ≡ 0) → sum_below n f ≡ sum_below a g
unfolding sum_below
sum_cut zero a f g h same none = let e : a ≡ 0 = omega arith in rw e
sum_cut (suc n) a f g h same none =
    case (eq_ne a (suc n))
    (λ e. rw e (sum_same (suc n) f g (λ i l. same i (omega arith))))
    (λ ne.
    let rest : sum_below n f ≡ sum_below a g = sum_cut n a f g (omega arith) same none in
    let last : f n ≡ 0 = none n (omega arith) in
    omega arith)

-- a sum by its first number and the rest
pub sum_first : (n : ℕ) (f : ℕ → ℕ) → sum_below (suc n) f ≡ f 0 + sum_below n (λ i. f (suc i))
unfolding sum_below
sum_first zero f = omega arith
sum_first (suc n) f = omega (arith, sum_first n f)

-- the sum over the places below the diagonal
unfoldable pub half_sum : ℕ → (ℕ → ℕ → ℕ) → ℕ
half_sum n x = sum_below n (λ a. sum_below a (x a))

-- a square that is the same across its diagonal, and nought on it, has an even sum
pub sum_even : (n : ℕ) (x : ℕ → ℕ → ℕ) → ((a b : ℕ) → x a b ≡ x b a) → ((a : ℕ) → x a a ≡ 0) → sum_below n (λ a. sum_below n (x a)) ≡ 2 * half_sum n x
unfolding sum_below half_sum
sum_even zero x across diagonal = omega arith
sum_even (suc n) x across diagonal =
    let rest : sum_below n (λ a. sum_below n (x a)) ≡ 2 * half_sum n x = sum_even n x across diagonal in
    let apart : sum_below n (λ a. sum_below n (x a) + x a n) ≡ sum_below n (λ a. sum_below n (x a)) + sum_below n (λ a. x a n) = sum_add n _ _ in
    let column : sum_below n (λ a. x a n) ≡ sum_below n (x n) = sum_same n _ _ (λ a lt. across a n) in
    let corner : x n n ≡ 0 = diagonal n in
    omega arith
