-- Preference lists: a square of bands, in which a struck pair has 0 at both places.
use Rattle.std.specs.Prelude.{Bool, ◌||◌, cond, List, [], ℕ, zero, suc, max, eqb, ltb, get_or, set}
use Rattle.base.specs.Below.{count_below, lowest}
use Rattle.sheet.specs.Square.{at}

abbrev pub Square : Type 0
Square = List (List ℕ)

-- a's list
abbrev pub row : Square → ℕ → List ℕ
row t a = get_or t a []

-- striking a pair removes it from both lists
abbrev pub clear : Square → ℕ → ℕ → Square
clear t a b = set t a (set (row t a) b 0)

abbrev pub struck : Square → ℕ → ℕ → Square
struck t a b = clear (clear t a b) b a

-- is b on a list?
abbrev pub is_listed : List ℕ → ℕ → Bool
is_listed l b = ltb 0 (get_or l b 0)

-- of one list, over the joints below n: its length, how many stand in band k, its best and its worst band (0 for an empty list)
abbrev pub list_length : ℕ → List ℕ → ℕ
list_length n l = count_below n (λ b. is_listed l b)

abbrev pub band_size : ℕ → ℕ → List ℕ → ℕ
band_size n k l = count_below n (λ b. eqb (get_or l b 0) k)

abbrev pub better_band : ℕ → ℕ → ℕ
better_band k b = cond (eqb b 0) k (cond (eqb k 0 || ltb b k) b k)

unfoldable pub best_band : ℕ → List ℕ → ℕ
best_band zero l = 0
best_band (suc i) l = better_band (best_band i l) (get_or l i 0)

unfoldable pub worst_band : ℕ → List ℕ → ℕ
worst_band zero l = 0
worst_band (suc i) l = max (worst_band i l) (get_or l i 0)

-- first on a list: the lowest joint of its best band
unfoldable pub first_on : ℕ → List ℕ → ℕ
first_on n l = lowest n (λ b. eqb (get_or l b 0) (best_band n l))

-- q strikes every pair whose band on its list passes a test
unfoldable pub strike_if : (ℕ → Bool) → ℕ → Square → ℕ → Square
strike_if test zero t q = t
strike_if test (suc i) t q =
    let u = strike_if test i t q in
    cond (test (at u q i)) (struck u q i) u

-- .. every pair with a joint that it ranks in a worse band than k
abbrev pub strike_worse : ℕ → Square → ℕ → ℕ → Square
strike_worse n t q k = strike_if (λ b. ltb k b) n t q

-- .. every pair in band k
abbrev pub strike_band : ℕ → Square → ℕ → ℕ → Square
strike_band n t q k = strike_if (λ b. eqb b k) n t q
