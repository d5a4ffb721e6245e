-- What holds of settle's and shorten's workings for every list of choices: demands 2 and 3, the refusals of choices, the counts.
use Rattle.std.specs.Prelude.{◌≡◌, Bool, true, false, ◌&&◌, ◌⊎◌, ◌≢◌, ◌↔◌, List, [], ◌∷◌, ◌++◌, ℕ, ◌*◌, ◌≤◌, ◌<◌, eqb, ltb}
use Rattle.base.specs.Below.{count_below, sum_below}
use Rattle.sections.specs.Entries.{band_in}
use Rattle.square.specs.Mutual.{listed_pairs}
use Rattle.sheet.specs.Format.{joints, rank_count, entries_of}
use Rattle.sheet.specs.Refusals.{sheet_fault}
use Rattle.sheet.specs.Square.{SquarePromise, square_of}
use Rattle.matching.specs.Matchings.{partner, pair_count}
use Rattle.blocking.specs.Blocking.{is_super_stable}
use Rattle.roommates.specs.declared.Stage.{Stage}
use Rattle.roommates.specs.declared.Stage.TheVariants.{Proposing, Cutting, NoneOne, NoneTwo, Paired}
use Rattle.roommates.specs.Lists.{Square, row, list_length}
use Rattle.roommates.specs.PhaseOne.{Work, fresh, waits, step, phase_one}
use Rattle.roommates.specs.PhaseTwo.{trial_start, cut_at, longer}
use Rattle.roommates.specs.Moves.{in_one, begun, Outcome, after_cut, worked, settles, shortens}
use Rattle.roommates.specs.Runs.{Arrived}
use Rattle.roommates.specs.Left.{pairing_of, listed_joints, entry_count, list_bytes}

-- An outcome's stage, which is its verdict where the working has ended, and its lists.
abbrev pub stage_of : Outcome → Stage
stage_of o = o.work_is.stage

abbrev pub lists_of : Outcome → Square
lists_of o = o.work_is.lists

-- What settle answers: the verdict, with its phase, and the count of pairs, 0 where there is no pairing.
pub record Answer : Type 0 where
  pub verdict : Stage
  pub count : ℕ

abbrev pub count_for : Stage → ℕ → ℕ
count_for Proposing k = 0
count_for Cutting k = 0
count_for NoneOne k = 0
count_for NoneTwo k = 0
count_for Paired k = k

abbrev pub answer_of : ℕ → Work → Answer
answer_of n w = record { verdict = w.stage; count = count_for w.stage (pair_count (pairing_of n w.lists)) }

-- For n joints with the lists t: what settle and shorten make of every list of choices.
pub record Settled (n : ℕ) (t : Square) (settle shorten : List ℕ → Outcome) : Type 0 where
  -- a pairing is returned exactly when there is a super-stable matching, and is one
  pub is_super : (cs : List ℕ) → (settle cs).refusal ≡ 0 → stage_of (settle cs) ≡ Paired
      → is_super_stable n t (pairing_of n (lists_of (settle cs))) ≡ true
  pub none_is : (cs m : List ℕ) → (settle cs).refusal ≡ 0 → stage_of (settle cs) ≢ Paired → is_super_stable n t m ≡ false
  pub says_one : (cs : List ℕ) → (settle cs).refusal ≡ 0
      → (stage_of (settle cs) ≡ NoneOne) ⊎ ((stage_of (settle cs) ≡ NoneTwo) ⊎ (stage_of (settle cs) ≡ Paired))
  -- the same verdict, phase and count of pairs for every list of choices within the rules; as one equation: they are the sheet's alone
  pub same_verdict : (cs ds : List ℕ) → (settle cs).refusal ≡ 0 → (settle ds).refusal ≡ 0 → stage_of (settle cs) ≡ stage_of (settle ds)
  pub same_count : (cs ds : List ℕ) → (settle cs).refusal ≡ 0 → (settle ds).refusal ≡ 0 → stage_of (settle cs) ≡ Paired
      → pair_count (pairing_of n (lists_of (settle cs))) ≡ pair_count (pairing_of n (lists_of (settle ds)))
  pub one_answer : (cs ds : List ℕ) → (settle cs).refusal ≡ 0 → (settle ds).refusal ≡ 0
      → answer_of n (settle cs).work_is ≡ answer_of n (settle ds).work_is
  -- shorten: none exactly for none in phase one; else the same lists
  pub shorten_says : (cs : List ℕ) → (shorten cs).refusal ≡ 0 → (stage_of (shorten cs) ≡ NoneOne) ⊎ (stage_of (shorten cs) ≡ Paired)
  pub shorten_none : (cs ds : List ℕ) → (shorten cs).refusal ≡ 0 → (settle ds).refusal ≡ 0
      → (stage_of (shorten cs) ≡ NoneOne) ↔ (stage_of (settle ds) ≡ NoneOne)
  pub same_lists : (cs ds : List ℕ) → (shorten cs).refusal ≡ 0 → (shorten ds).refusal ≡ 0 → stage_of (shorten cs) ≢ NoneOne
      → list_bytes n (lists_of (shorten cs)) ≡ list_bytes n (lists_of (shorten ds))
  -- every super-stable matching pairs exactly the joints that settle pairs: those with a list left after phase one
  pub same_joints : (cs m : List ℕ) (a : ℕ) → (settle cs).refusal ≡ 0 → stage_of (settle cs) ≡ Paired → is_super_stable n t m ≡ true → a < n
      → eqb (partner m a) 255 ≡ eqb (partner (pairing_of n (lists_of (settle cs))) a) 255
  pub count_is : (cs ds : List ℕ) → (settle cs).refusal ≡ 0 → stage_of (settle cs) ≡ Paired → (shorten ds).refusal ≡ 0
      → 2 * pair_count (pairing_of n (lists_of (settle cs))) ≡ listed_joints n (lists_of (shorten ds))
  -- proposals and cuts, after refused choices too
  pub few_proposals : (cs : List ℕ) → ((settle cs).work_is.proposals ≤ n * n) × ((shorten cs).work_is.proposals ≤ n * n)
  pub few_cuts : (cs : List ℕ) → (2 * (settle cs).work_is.cuts ≤ entry_count n t) × ((shorten cs).work_is.cuts ≡ 0)
  -- every working came about by steps and cuts, which its counts count
  pub settle_arrived : (cs : List ℕ) → Arrived true n t (settle cs).work_is
  pub shorten_arrived : (cs : List ℕ) → Arrived false n t (shorten cs).work_is
  -- each trial ends
  pub trials_end : (cs : List ℕ) (v p : ℕ) → p < n → waits n (phase_one n (fresh (trial_start n (lists_of (settle cs)) v))) p ≡ false
  -- without choices nothing is refused
  pub no_choices : ((settle []).refusal ≡ 0) × ((shorten []).refusal ≡ 0)

-- For every accepted sheet; its square lists each of the sheet's listed pairs twice, so few_cuts says that there are no more cuts than
-- listed pairs, which are at most half the entries.
abbrev pub Demands : Type 0
Demands = (s : List ℕ) → sheet_fault s ≡ 0 → Settled (joints s) (square_of s) (settles (joints s) (square_of s)) (shortens (joints s) (square_of s))

abbrev pub AllListed : Type 0
AllListed = (s : List ℕ) → sheet_fault s ≡ 0 → entry_count (joints s) (square_of s) ≡ 2 * listed_pairs (entries_of s)

abbrev pub PairsHalf : Type 0
PairsHalf = (s : List ℕ) → sheet_fault s ≡ 0 → 2 * listed_pairs (entries_of s) ≤ rank_count s

-- They are the pairs of joints, b below a, of which each has an entry for the other.
abbrev pub PairsCounted : Type 0
PairsCounted = (s : List ℕ) → sheet_fault s ≡ 0
    → listed_pairs (entries_of s)
    ≡ sum_below (joints s) (λ a. count_below a (λ b. ltb 0 (band_in (entries_of s) b a) && ltb 0 (band_in (entries_of s) a b)))

-- THE REFUSALS OF CHOICES. From the working w the choices cs were made, each allowed where it was met, and left the working v.
pub data Made (whole : Bool) (n : ℕ) : Work → List ℕ → Work → Type 0 where
  none_made : {w : Work} → Made whole n w [] w
  step_made : {w v : Work} {cs : List ℕ} (x : ℕ) → w.stage ≡ Proposing → x < n → waits n w x ≡ true
      → Made whole n (in_one whole n (step n w x)) cs v → Made whole n w (x ∷ cs) v
  cut_made : {w v : Work} {cs : List ℕ} (x : ℕ) → w.stage ≡ Cutting → x < n → longer n w.lists x ≡ true
      → Made whole n (after_cut n w (cut_at n w.aside w.lists x)) cs v → Made whole n w (x ∷ cs) v

-- why x may not be chosen next, with the number that says so
pub data Unfit (n : ℕ) (w : Work) (x : ℕ) : ℕ → Type 0 where
  -- phase one: the choice doesn't wait, or is no joint
  not_waiting : w.stage ≡ Proposing → (n ≤ x) ⊎ (waits n w x ≡ false) → Unfit n w x 11
  -- phase two: the chosen list is not longer than one, or the choice is no joint
  not_longer : w.stage ≡ Cutting → (n ≤ x) ⊎ (longer n w.lists x ≡ false) → Unfit n w x 12
  -- a choice is left when the working has ended: with none in either phase, or with a pairing (shorten: with lists)
  ended_before : (w.stage ≡ NoneOne) ⊎ ((w.stage ≡ NoneTwo) ⊎ (w.stage ≡ Paired)) → Unfit n w x 13

-- some choice, after the ones before it were made, may not be chosen, for the reason that k says
pub record RefusedBy (whole : Bool) (n : ℕ) (t : Square) (cs : List ℕ) (k : ℕ) : Type 0 where
  pub earlier : List ℕ
  pub choice : ℕ
  pub later : List ℕ
  pub split : cs ≡ earlier ++ (choice ∷ later)
  pub there : Work
  pub made : Made whole n (begun whole n t) earlier there
  pub unfit : Unfit n there choice k

-- For every list of choices, settle's and shorten's; k is not 0.
pub record ChoicesRefused (whole : Bool) (n : ℕ) (t : Square) (cs : List ℕ) : Type 0 where
  pub refused_by : (k : ℕ) → k ≢ 0 → ((worked whole n t cs).refusal ≡ k) ↔ RefusedBy whole n t cs k
  -- it stops short of an end only where a choice was refused
  pub stops_at : SquarePromise n t → ((worked whole n t cs).work_is.stage ≡ Proposing → (worked whole n t cs).refusal ≡ 11)
      × ((worked whole n t cs).work_is.stage ≡ Cutting → (worked whole n t cs).refusal ≡ 12)
  -- left off wherever the rigger likes: a beginning of a list within the rules is within them
  pub beginning : (ds : List ℕ) → (worked whole n t (cs ++ ds)).refusal ≡ 0 → (worked whole n t cs).refusal ≡ 0

abbrev pub Refusals : Type 0
Refusals = (whole : Bool) (n : ℕ) (t : Square) (cs : List ℕ) → ChoicesRefused whole n t cs

-- WHERE CHOICES HAVE RUN OUT, with no look at the rule's own definition. p waits, and nobody lower does.
pub record LowestWaiting (n : ℕ) (w : Work) (p : ℕ) : Type 0 where
  pub inside : p < n
  pub waiting : waits n w p ≡ true
  pub lower_not : (q : ℕ) → q < p → waits n w q ≡ false

-- x has the longest list, and among equals the highest number
pub record LongestList (n : ℕ) (t : Square) (x : ℕ) : Type 0 where
  pub inside : x < n
  pub none_longer : (y : ℕ) → y < n → list_length n (row t y) ≤ list_length n (row t x)
  pub among_equals : (y : ℕ) → y < n → list_length n (row t y) ≡ list_length n (row t x) → y ≤ x

-- The choices cs were made and left the working w. To leave off there is to choose, in phase one, the lowest joint that waits; in phase two,
-- the joint with the longest remaining list, among equals the highest number.
pub record LeftOff (whole : Bool) (n : ℕ) (t : Square) (cs : List ℕ) (w : Work) : Type 0 where
  pub in_phase_one : w.stage ≡ Proposing → (p : ℕ) × LowestWaiting n w p × (worked whole n t cs ≡ worked whole n t (cs ++ (p ∷ [])))
  pub in_phase_two : w.stage ≡ Cutting → (x : ℕ) × LongestList n w.lists x × (worked whole n t cs ≡ worked whole n t (cs ++ (x ∷ [])))

abbrev pub RuleSaid : Type 0
RuleSaid = (whole : Bool) (n : ℕ) (t : Square) → SquarePromise n t → (cs : List ℕ) (w : Work) → Made whole n (begun whole n t) cs w → LeftOff whole n t cs w
