-- Phase one: proposals.
use Rattle.std.specs.Prelude.{Bool, ◌&&◌, not, cond, List, ℕ, zero, suc, ◌+◌, ◌*◌, eqb, leb, get_or, set, replicate}
use Rattle.sheet.specs.Square.{at}
use Rattle.roommates.specs.declared.Stage.{Stage}
use Rattle.roommates.specs.declared.Stage.TheVariants.{Proposing}
use Rattle.roommates.specs.Lists.{Square, row, list_length, best_band, band_size, strike_worse, strike_band}
use Rattle.base.specs.Below.{any_below, count_below, lowest}

-- A working: its stage, the lists, for each joint the band that it last proposed to (0 before its first step), whether it ever
-- received a proposal (1 or 0) and whether it is set aside (1 or 0), the proposals made and the cuts.
pub record Work : Type 0 where
  pub stage : Stage
  pub lists : Square
  pub reach : List ℕ
  pub received : List ℕ
  pub aside : List ℕ
  pub proposals : ℕ
  pub cuts : ℕ

abbrev pub work : Stage → Square → List ℕ → List ℕ → List ℕ → ℕ → ℕ → Work
work s t r g a p c = record { stage = s; lists = t; reach = r; received = g; aside = a; proposals = p; cuts = c }

-- no joint
abbrev pub nobody : List ℕ
nobody = replicate 128 0

-- every listed pair, no proposal made or standing, both counts at nought
abbrev pub fresh : Square → Work
fresh t = work Proposing t nobody nobody nobody 0 0

-- A joint that last proposed to band k has a proposal standing at each joint which it still lists in band k:
-- it proposes to a whole band at a time, steps again only when nothing of that band is left, and a strike ends
-- the proposals between the two.
abbrev pub stands : ℕ → ℕ → Bool
stands k b = leb 1 k && eqb b k

-- does some proposal of a joint with this list stand?
abbrev pub any_stands : ℕ → ℕ → List ℕ → Bool
any_stands n k l = any_below n (λ b. stands k (get_or l b 0))

-- a joint waits if its list is not empty and none of its proposals stands
unfoldable pub list_waits : ℕ → ℕ → List ℕ → Bool
list_waits n k l = leb 1 (list_length n l) && not (any_stands n k l)

abbrev pub waits : ℕ → Work → ℕ → Bool
waits n w p = list_waits n (get_or w.reach p 0) (row w.lists p)

-- how many proposals stand at q
abbrev pub standing_at : ℕ → Square → List ℕ → ℕ → ℕ
standing_at n t reach q = count_below n (λ p. stands (get_or reach p 0) (at t p q))

-- One proposal of p at q, counted as standing in `reach`. q strikes all pairs with joints it ranks in a worse band than p.
-- If two or more proposals then stand at q, q strikes every pair in p's band, p's own included.
unfoldable pub proposed : ℕ → List ℕ → Square → ℕ → ℕ → Square
proposed n reach t p q =
    let k = at t q p in
    let u = strike_worse n t q k in
    cond (leb 2 (standing_at n u reach q)) (strike_band n u q k) u

-- p proposes to every joint in band k of its list l, as it was when the step began, lowest first
unfoldable pub propose_all : ℕ → ℕ → List ℕ → ℕ → List ℕ → Square → ℕ → Square
propose_all zero n l k reach t p = t
propose_all (suc i) n l k reach t p =
    let u = propose_all i n l k reach t p in
    cond (eqb (get_or l i 0) k) (proposed n reach u p i) u

-- the joints in band k of l have now received
unfoldable pub receive_all : ℕ → List ℕ → ℕ → List ℕ → List ℕ
receive_all zero l k received = received
receive_all (suc i) l k received =
    let g = receive_all i l k received in
    cond (eqb (get_or l i 0) k) (set g i 1) g

-- one step, of p
unfoldable pub step : ℕ → Work → ℕ → Work
step n w p =
    let l = row w.lists p in
    let k = best_band n l in
    let reach = set w.reach p k in
    work w.stage (propose_all n n l k reach w.lists p) reach (receive_all n l k w.received) w.aside
    (w.proposals + band_size n k l) w.cuts

-- the lowest joint that waits; n where nobody does
abbrev pub lowest_waiting : ℕ → Work → ℕ
lowest_waiting n w = lowest n (λ p. waits n w p)

-- Phase one without choices: the lowest joint that waits steps, until nobody does.
unfoldable pub run_out : ℕ → ℕ → Work → Work
run_out zero n w = w
run_out (suc f) n w = cond (eqb (lowest_waiting n w) n) w (run_out f n (step n w (lowest_waiting n w)))

-- More steps than there can be: each makes a proposal, and there are at most n × n (Theorem few_proposals).
abbrev pub fuel : ℕ → ℕ
fuel n = suc (n * n)

abbrev pub phase_one : ℕ → Work → Work
phase_one n w = run_out (fuel n) n w

-- a received a proposal and has an empty list
abbrev pub is_emptied : ℕ → Work → ℕ → Bool
is_emptied n w a = eqb (get_or w.received a 0) 1 && eqb (list_length n (row w.lists a)) 0

-- none in phase one: some joint below n is so
unfoldable pub some_emptied : ℕ → Work → Bool
some_emptied n w = any_below n (λ a. is_emptied n w a)
