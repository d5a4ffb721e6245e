-- Which proposals stand, who waits and how many proposals were made, in document 01's words: from the steps of a run and its lists,
-- with no look at what a working keeps in `reach`.
use Rattle.std.specs.Prelude.{◌≡◌, Bool, true, ◌&&◌, ◌||◌, ◌≢◌, ◌↔◌, List, ℕ, zero, suc, ◌+◌, ◌≤◌, ◌<◌, eqb, leb, get_or}
use Rattle.base.specs.Below.{all_below, count_below, sum_below}
use Rattle.sheet.specs.Square.{at, SquarePromise}
use Rattle.roommates.specs.Lists.{Square, row, is_listed, list_length}
use Rattle.roommates.specs.PhaseOne.{Work, fresh, stands, waits}
use Rattle.roommates.specs.PhaseTwo.{trial_start}
use Rattle.roommates.specs.Runs.{Run, stop, then, cuts_made, Arrived, in_phase_one, none_in_one, lists_left, in_phase_two, none_in_two, all_short}

-- The history of a run: how many steps it makes; who makes step i, counted from 0 (n where there is none); the lists after i steps,
-- which are the lists as step i begins.
unfoldable pub steps : {n : ℕ} {w w' : Work} → Run n w w' → ℕ
steps stop = 0
steps (then p inside waiting rest) = suc (steps rest)

unfoldable pub proposer : {n : ℕ} {w w' : Work} → Run n w w' → ℕ → ℕ
proposer {n} stop i = n
proposer (then p inside waiting rest) zero = p
proposer (then p inside waiting rest) (suc i) = proposer rest i

unfoldable pub lists_after : {n : ℕ} {w w' : Work} → Run n w w' → ℕ → Square
lists_after {n} {w} stop i = w.lists
lists_after {n} {w} (then p inside waiting rest) zero = w.lists
lists_after (then p inside waiting rest) (suc i) = lists_after rest i

-- q is in the best band of a list: it is on the list, and everybody on it is in that band or a worse one
abbrev pub in_best_band : ℕ → List ℕ → ℕ → Bool
in_best_band n l q = is_listed l q && all_below n (λ r. eqb (get_or l r 0) 0 || leb (get_or l q 0) (get_or l r 0))

-- step i reaches q: a step is a proposal to every joint in the best band of the proposer's list as the step begins
abbrev pub reached : {n : ℕ} {w w' : Work} → Run n w w' → ℕ → ℕ → Bool
reached {n} run i q = in_best_band n (row (lists_after run i) (proposer run i)) q

-- step i is the last that p makes
pub record LastStep {n : ℕ} {w w' : Work} (run : Run n w w') (p i : ℕ) : Type 0 where
  pub made : i < steps run
  pub by_p : proposer run i ≡ p
  pub none_later : (j : ℕ) → i < j → j < steps run → proposer run j ≢ p

-- the pair has not been struck since step i began: it is on both lists then and at every later time
abbrev pub UnstruckSince : {n : ℕ} {w w' : Work} → Run n w w' → ℕ → ℕ → ℕ → Type 0
UnstruckSince run i p q = (j : ℕ) → i ≤ j → j ≤ steps run → (0 < at (lists_after run j) p q) × (0 < at (lists_after run j) q p)

-- p's proposal stands at q at the run's end: p's last step reached q, and the pair has not been struck since
abbrev pub StandsAfter : {n : ℕ} {w w' : Work} → Run n w w' → ℕ → ℕ → Type 0
StandsAfter run p q = (i : ℕ) × LastStep run p i × (reached run i q ≡ true) × UnstruckSince run i p q

-- the proposals made in a run: one for each joint reached
abbrev pub proposals_in : {n : ℕ} {w w' : Work} → Run n w w' → ℕ
proposals_in {n} run = sum_below (steps run) (λ i. count_below n (λ q. reached run i q))

-- The test for a standing proposal, by which workings go, says just that.
abbrev pub StandsAsSaid : Type 0
StandsAsSaid = (n : ℕ) (t : Square) (w : Work) → SquarePromise n t → (run : Run n (fresh t) w) (p q : ℕ)
    → (stands (get_or w.reach p 0) (at w.lists p q) ≡ true) ↔ StandsAfter run p q

-- A joint waits exactly if its list is not empty and none of its proposals stands.
abbrev pub WaitsAsSaid : Type 0
WaitsAsSaid = (n : ℕ) (t : Square) (w : Work) → SquarePromise n t → (run : Run n (fresh t) w) (p : ℕ)
    → (waits n w p ≡ true) ↔ ((1 ≤ list_length n (row w.lists p)) × ((q : ℕ) → StandsAfter run p q → ⊥))

-- The same in trials: the lists that one begins with keep the promise too.
abbrev pub TrialsPromise : Type 0
TrialsPromise = (n : ℕ) (t : Square) → SquarePromise n t → (w : Work) → Arrived true n t w → (v : ℕ) → SquarePromise n (trial_start n w.lists v)

-- A working counts its proposals, one for each joint reached: every run adds those that it makes, and a fresh working has none.
abbrev pub ProposalsAdded : Type 0
ProposalsAdded = (n : ℕ) (w w' : Work) (run : Run n w w') → w'.proposals ≡ w.proposals + proposals_in run

abbrev pub ProposalsAsSaid : Type 0
ProposalsAsSaid = (n : ℕ) (t : Square) (w : Work) (run : Run n (fresh t) w) → w.proposals ≡ proposals_in run

-- The steps by which a working arrived, and its cuts, one that ends in none included.
unfoldable pub steps_to : {whole : Bool} {n : ℕ} {t : Square} {w : Work} → Arrived whole n t w → (v : Work) × Run n (fresh t) v
steps_to {w = w} (in_phase_one h run p l e) = (w, run)
steps_to (none_in_one v h ended bad) = (v, ended.run)
steps_to (lists_left h v k ended ok) = (v, ended.run)
steps_to (in_phase_two h k by x l long) = (by.one, by.ended.run)
steps_to (none_in_two h k by x l long failed) = (by.one, by.ended.run)
steps_to (all_short h k by short) = (by.one, by.ended.run)

unfoldable pub cuts_to : {whole : Bool} {n : ℕ} {t : Square} {w : Work} → Arrived whole n t w → ℕ
cuts_to (in_phase_one h run p l e) = 0
cuts_to (none_in_one v h ended bad) = 0
cuts_to (lists_left h v k ended ok) = 0
cuts_to (in_phase_two h k by x l long) = cuts_made by.made
cuts_to (none_in_two h k by x l long failed) = suc (cuts_made by.made)
cuts_to (all_short h k by short) = cuts_made by.made

-- A working's counts: of the joints that its steps reached, and of its cuts. Every working has arrived so (Settled).
abbrev pub CountsAsSaid : Type 0
CountsAsSaid = (whole : Bool) (n : ℕ) (t : Square) (w : Work) (a : Arrived whole n t w)
    → (w.proposals ≡ proposals_in (steps_to a).1) × (w.cuts ≡ cuts_to a)
