-- Laws of `count_below`.
use mathlib.Core.Path.{◌≡◌, refl, ap}
use mathlib.Core.Bool.{Bool, true, false, not, cond, ◌&&◌}
use mathlib.Core.Logic.{◌⊎◌, inl, inr, ◌≢◌}
use Prim.Native.Nat.{ℕ, zero, suc, ◌+◌, ◌≤◌, ◌<◌}
use native.Mathlib.Numerals.{add-one}
use native.Mathlib.Omega.{arith}
use Rattle.base.specs.Below.{count_below, sum_below}
use Rattle.base.proofs.Cases.{case, both_ways, lt_ge}
use Rattle.base.proofs.SumBelow.{sum_grows}

-- a count is a sum of ones
abbrev pub ones : (ℕ → Bool) → ℕ → ℕ
ones test i = cond (test i) 1 0

pub count_sum : (n : ℕ) (test : ℕ → Bool) → count_below n test ≡ sum_below n (ones test)
unfolding count_below sum_below
count_sum zero test = refl
count_sum (suc i) test = ap (λ (s : ℕ). s + ones test i) (count_sum i test)

-- IN A LOOP
pub count_zero : (test : ℕ → Bool) → count_below 0 test ≡ 0
unfolding count_below
count_zero test = refl

module _ (i : ℕ) (test : ℕ → Bool) {s : ℕ} where
  pub count_hit : s ≡ count_below i test → test i ≡ true → s + 1 ≡ count_below (i + 1) test
  unfolding count_below
  count_hit e h = rw (add-one i, h, ← e)

  pub count_miss : s ≡ count_below i test → test i ≡ false → s ≡ count_below (i + 1) test
  unfolding count_below
  count_miss e h = rw (add-one i, h, ← e) (omega arith)

-- one more number is counted or not
count_more : (i : ℕ) (test : ℕ → Bool)
    → ((test i ≡ true) × (count_below (suc i) test ≡ suc (count_below i test))) ⊎ ((test i ≡ false) × (count_below (suc i) test ≡ count_below i test))
unfolding count_below
count_more i test =
    case (both_ways (test i))
    (λ e. inl (e, rw e (omega arith)))
    (λ e. inr (e, rw e (omega arith)))

-- SIZE
pub count_most : (n : ℕ) (test : ℕ → Bool) → count_below n test ≤ n
unfolding count_below
count_most zero test = omega arith
count_most (suc i) test = let r = count_most i test in case (count_more i test) (λ c. omega arith) (λ c. omega arith)

pub count_grows : (n i : ℕ) (test : ℕ → Bool) → i ≤ n → count_below i test ≤ count_below n test
count_grows n i test h = rw (count_sum n test, count_sum i test) (sum_grows n i (ones test) h)

-- the same tests count the same; weaker tests count no less
pub count_same : (n : ℕ) (f g : ℕ → Bool) → ((i : ℕ) → i < n → f i ≡ g i) → count_below n f ≡ count_below n g
unfolding count_below
count_same zero f g h = refl
count_same (suc n) f g h = rw (count_same n f g (λ i l. h i (omega arith)), h n (omega arith))

-- those that pass a second test and those that do not are all that pass the first
pub count_parted : (n : ℕ) (f g : ℕ → Bool) → count_below n (λ i. f i && not (g i)) + count_below n (λ i. f i && g i) ≡ count_below n f
unfolding count_below
count_parted zero f g = refl
count_parted (suc n) f g =
    let rest = count_parted n f g in
    case (both_ways (f n))
    (λ e. case (both_ways (g n)) (λ h. rw (e, h) (omega arith)) (λ h. rw (e, h) (omega arith)))
    (λ e. rw e (omega arith))

-- those that pass and those that do not are all
pub count_rest : (n : ℕ) (test : ℕ → Bool) → count_below n test + count_below n (λ i. not (test i)) ≡ n
unfolding count_below
count_rest zero test = refl
count_rest (suc n) test =
    let rest = count_rest n test in
    case (both_ways (test n)) (λ e. rw e (omega arith)) (λ e. rw e (omega arith))

-- WHO IS COUNTED
pub counted : (n : ℕ) (test : ℕ → Bool) → 1 ≤ count_below n test → (j : ℕ) × (j < n) × (test j ≡ true)
unfolding count_below
counted zero test h = absurd (omega arith)
counted (suc i) test h =
    case (count_more i test)
    (λ m. (i, omega arith, m.0))
    (λ m. let r : (j : ℕ) × (j < i) × (test j ≡ true) = counted i test (omega arith) in (r.0, omega arith, r.2))

pub count_one : (n : ℕ) (test : ℕ → Bool) (j : ℕ) → j < n → test j ≡ true → 1 ≤ count_below n test
count_one n test j h e =
    let one : count_below j test + 1 ≡ count_below (j + 1) test = count_hit j test refl e in
    omega (arith, count_grows n (j + 1) test (omega arith))

-- two different numbers that pass
abbrev pub Two : ℕ → (ℕ → Bool) → Type 0
Two n test = (i : ℕ) × (j : ℕ) × (i < n) × (j < n) × (i ≢ j) × (test i ≡ true) × (test j ≡ true)

pub two_counted : (n : ℕ) (test : ℕ → Bool) → 2 ≤ count_below n test → Two n test
unfolding count_below
two_counted zero test h = absurd (omega arith)
two_counted (suc i) test h =
    case (count_more i test)
    (λ m. let r : (j : ℕ) × (j < i) × (test j ≡ true) = counted i test (omega arith) in
    (i, r.0, omega arith, omega arith, omega arith, m.0, r.2))
    (λ m. let r : Two i test = two_counted i test (omega arith) in
    (r.0, r.1, omega arith, omega arith, r.4, r.5, r.6))

count_higher : (n : ℕ) (test : ℕ → Bool) (a b : ℕ) → a < b → b < n → test a ≡ true → test b ≡ true → 2 ≤ count_below n test
count_higher n test a b l h e f =
    let one : 1 ≤ count_below b test = count_one b test a l e in
    let two : count_below b test + 1 ≡ count_below (b + 1) test = count_hit b test refl f in
    omega (arith, count_grows n (b + 1) test (omega arith))

pub count_two : (n : ℕ) (test : ℕ → Bool) (a b : ℕ) → a < n → b < n → a ≢ b → test a ≡ true → test b ≡ true → 2 ≤ count_below n test
count_two n test a b h k d e f =
    case (lt_ge a b)
    (λ l. count_higher n test a b l k e f)
    (λ l. count_higher n test b a (omega arith) h f e)
