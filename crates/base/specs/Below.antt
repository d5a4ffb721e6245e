-- The numbers below n: does any pass a test, do all, how many, which is the lowest; sums and lists over them; where a function is greatest.
use Rattle.std.specs.Prelude.{Bool, true, false, ◌&&◌, ◌||◌, cond, List, [], ◌++◌, Option, Some, None, ℕ, zero, suc, ◌+◌, leb, ltb}

unfoldable pub any_below : ℕ → (ℕ → Bool) → Bool
any_below zero test = false
any_below (suc i) test = any_below i test || test i

unfoldable pub all_below : ℕ → (ℕ → Bool) → Bool
all_below zero test = true
all_below (suc i) test = all_below i test && test i

unfoldable pub count_below : ℕ → (ℕ → Bool) → ℕ
count_below zero test = 0
count_below (suc i) test = count_below i test + cond (test i) 1 0

unfoldable pub sum_below : ℕ → (ℕ → ℕ) → ℕ
sum_below zero f = 0
sum_below (suc i) f = sum_below i f + f i

-- the lowest number below n that passes; n where none does
unfoldable pub lowest_from : ℕ → ℕ → (ℕ → Bool) → ℕ
lowest_from zero i test = i
lowest_from (suc f) i test =
    let rest = lowest_from f (suc i) test in
    cond (test i) i rest

abbrev pub lowest : ℕ → (ℕ → Bool) → ℕ
lowest n test = lowest_from n 0 test

-- .. if one does
abbrev pub first_below : ℕ → (ℕ → Bool) → Option ℕ
first_below n test = let low = lowest n test in cond (ltb low n) (Some low) None

-- the number below n at which f is greatest, and among equals the highest; 0 where n is 0
unfoldable pub argmax : ℕ → (ℕ → ℕ) → ℕ
argmax zero f = 0
argmax (suc i) f =
    let best = argmax i f in
    cond (leb (f best) (f i)) i best

-- the parts of 0, 1, 2 and so on, one behind the other
unfoldable pub joined : ℕ → (ℕ → List ℕ) → List ℕ
joined zero part = []
joined (suc i) part = joined i part ++ part i
