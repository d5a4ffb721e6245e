-- Phase two: cuts.
use Rattle.std.specs.Prelude.{Bool, ◌||◌, cond, List, ℕ, zero, suc, eqb, leb, get_or, set}
use Rattle.roommates.specs.Lists.{Square, row, list_length, worst_band, first_on, strike_band}
use Rattle.base.specs.Below.{all_below, argmax}
use Rattle.roommates.specs.PhaseOne.{nobody, fresh, phase_one}

-- a trial: v's pairs with v's worst band are struck, then phase one runs afresh, with no choices
abbrev pub trial_start : ℕ → Square → ℕ → Square
trial_start n t v = strike_band n t v (worst_band n (row t v))

unfoldable pub trial : ℕ → Square → ℕ → Square
trial n t v = (phase_one n (fresh (trial_start n t v))).lists

-- the joints set aside: those below i whose list is empty in t
unfoldable pub aside_below : ℕ → ℕ → Square → List ℕ
aside_below zero n t = nobody
aside_below (suc i) n t =
    let a = aside_below i n t in
    cond (eqb (list_length n (row t i)) 0) (set a i 1) a

abbrev pub aside_of : ℕ → Square → List ℕ
aside_of n t = aside_below n n t

-- no list is empty but those of joints set aside
unfoldable pub none_emptied : ℕ → List ℕ → Square → Bool
none_emptied n aside t = all_below n (λ a. eqb (get_or aside a 0) 1 || leb 1 (list_length n (row t a)))

-- what a cut leaves: the kept trial's lists, or neither
pub data Cut : Type 0 where
  kept : Square → Cut
  neither : Cut

-- a cut at x, with z first on x's list: trial one at z; trial two at x, from the same lists
unfoldable pub cut_at : ℕ → List ℕ → Square → ℕ → Cut
cut_at n aside t x =
    let first = trial n t (first_on n (row t x)) in
    let second = trial n t x in
    let other = cond (none_emptied n aside second) (kept second) neither in
    cond (none_emptied n aside first) (kept first) other

-- x's list is longer than one
abbrev pub longer : ℕ → Square → ℕ → Bool
longer n t x = leb 2 (list_length n (row t x))

-- the joint with the longest list, and among equals the highest
unfoldable pub longest_list : ℕ → Square → ℕ
longest_list n t = argmax n (λ x. list_length n (row t x))
