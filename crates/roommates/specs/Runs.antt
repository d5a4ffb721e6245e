-- Any order of work: the theory is about every run, of which choices and the rule are two ways to pick one.
use Rattle.std.specs.Prelude.{◌≡◌, Bool, true, false, List, ℕ, suc, ◌+◌, ◌<◌}
use Rattle.roommates.specs.declared.Stage.TheVariants.{Proposing, Cutting, NoneOne, NoneTwo, Paired}
use Rattle.roommates.specs.Lists.{Square}
use Rattle.roommates.specs.PhaseOne.{Work, fresh, waits, step, some_emptied}
use Rattle.roommates.specs.PhaseTwo.{aside_of, kept, neither, cut_at, longer}
use Rattle.roommates.specs.Moves.{staged}

-- from w, by steps of joints that wait, to w'
pub data Run (n : ℕ) : Work → Work → Type 0 where
  stop : {w : Work} → Run n w w
  then : {w w' : Work} (p : ℕ) → p < n → waits n w p ≡ true → Run n (step n w p) w' → Run n w w'

-- a run from fresh lists t to its end: nobody waits
pub record OneEnded (n : ℕ) (t : Square) (w : Work) : Type 0 where
  pub run : Run n (fresh t) w
  pub quiet : (p : ℕ) → p < n → waits n w p ≡ false

-- from the lists t, by cuts at joints with a list longer than one that keep a trial, to t'
pub data Cuts (n : ℕ) (aside : List ℕ) : Square → Square → Type 0 where
  uncut : {t : Square} → Cuts n aside t t
  cut_then : {t u t' : Square} (x : ℕ) → x < n → longer n t x ≡ true → cut_at n aside t x ≡ kept u → Cuts n aside u t' → Cuts n aside t t'

-- how many
unfoldable pub cuts_made : {n : ℕ} {aside : List ℕ} {t u : Square} → Cuts n aside t u → ℕ
cuts_made uncut = 0
cuts_made (cut_then x lx long e more) = suc (cuts_made more)

-- In phase two: a run of phase one to its end, where nobody who received has an empty list, then cuts, of which the last may have failed
-- (1, else 0). The counts are the run's proposals and the cuts made.
pub record ByCuts (n : ℕ) (t : Square) (w : Work) (failed : ℕ) : Type 0 where
  pub one : Work
  pub ended : OneEnded n t one
  pub unemptied : some_emptied n one ≡ false
  pub aside_is : w.aside ≡ aside_of n one.lists
  pub made : Cuts n w.aside one.lists w.lists
  pub proposals_are : w.proposals ≡ one.proposals
  pub cuts_are : w.cuts ≡ cuts_made made + failed

-- WHERE A WORKING STANDS that began with the lists t, settle's (`whole`) or shorten's, and what took it there.
pub data Arrived (whole : Bool) (n : ℕ) (t : Square) (w : Work) : Type 0 where
  -- in phase one: somebody waits
  in_phase_one : w.stage ≡ Proposing → Run n (fresh t) w → (p : ℕ) → p < n → waits n w p ≡ true → Arrived whole n t w
  -- none, where phase one ended and somebody who received has an empty list
  none_in_one : (v : Work) → w ≡ staged NoneOne v → OneEnded n t v → some_emptied n v ≡ true → Arrived whole n t w
  -- shorten's end: phase one ended otherwise
  lists_left : whole ≡ false → (v : Work) → w ≡ staged Paired v → OneEnded n t v → some_emptied n v ≡ false → Arrived whole n t w
  -- in phase two: some list is longer than one
  in_phase_two : whole ≡ true → w.stage ≡ Cutting → ByCuts n t w 0 → (x : ℕ) → x < n → longer n w.lists x ≡ true → Arrived whole n t w
  -- none, where a cut kept neither trial
  none_in_two : whole ≡ true → w.stage ≡ NoneTwo → ByCuts n t w 1
      → (x : ℕ) → x < n → longer n w.lists x ≡ true → cut_at n w.aside w.lists x ≡ neither → Arrived whole n t w
  -- a pairing: no list is longer than one
  all_short : whole ≡ true → w.stage ≡ Paired → ByCuts n t w 0 → ((x : ℕ) → x < n → longer n w.lists x ≡ false) → Arrived whole n t w
