-- What a working g becomes: the stage that it goes on in, or ends with.
use mathlib.Core.Path.{◌≡◌, refl, sym, ◌∙◌, ap, subst}
use mathlib.Core.Bool.{true, false}
use mathlib.Core.List.{List}
use mathlib.Core.Logic.{◌≢◌}
use Prim.Native.Nat.{ℕ, ◌≤◌, ◌<◌}
use native.Mathlib.Omega.{arith}
use borrow.Author.Tests.{eq-eqb, ne_eqb}
use Rattle.std.proofs.Common.{Option, Some, None}
use Rattle.base.proofs.CountBelow.{count_most}
use Rattle.roommates.specs.declared.Stage.{Stage}
use Rattle.roommates.specs.declared.Stage.TheVariants.{Proposing, Cutting, NoneOne, Paired}
use Rattle.sheet.specs.Square.{SquarePromise}
use Rattle.roommates.specs.Lists.{Square, row, list_length}
use Rattle.roommates.specs.PhaseOne.{Work, nobody, fresh, lowest_waiting, some_emptied}
use Rattle.roommates.specs.PhaseTwo.{aside_of, longest_list}
use Rattle.roommates.specs.Moves.{staged, in_two, end_one, in_one, ruled}
use Rattle.roommates.proofs.Longest.{longest_inside, some_longer, none_longer}
use Rattle.roommates.specs.Runs.{Arrived}
use Rattle.roommates.proofs.Arrivals.{begun_arrives}
use Rattle.proposals.specs.declared.Progress.{Progress}
use Rattle.stages.specs.declared.Task.{Task}
use Rattle.stages.specs.declared.Working.{Working}
use Rattle.stages.specs.Lawful.{Lawful}
use Rattle.stages.specs.Workings.{work_of, Becomes}

-- the same working by another name
pub becomes_as : (g h : Working) {v w : Work} → v ≡ w → Becomes g v h → Becomes g w h
becomes_as g h e s = (s.0, (s.1.0 ∙ e, s.1.1))

module _ (g h : Working) where
  abbrev n : ℕ
  n = g.task.joints.count

  abbrev w : Work
  w = work_of g

  -- h is g at another stage, in which the rule names x, or nobody
  abbrev pub At : Stage → Option ℕ → Type 0
  At s x = h ≡ record g { stage = s; next = x }

  stands : (s : Stage) {x : ℕ} → At s (Some x) → x < n → x ≡ ruled n (staged s w) → Becomes g (staged s w) h
  stands s is inside names = rw is (refl, (refl, (inside, names)))

  ends : (s : Stage) → At s None → ruled n (staged s w) ≡ n → Becomes g (staged s w) h
  ends s is nobody_named = rw is (refl, (refl, nobody_named))

  ends_none : At NoneOne None → Becomes g (staged NoneOne w) h
  unfolding ruled
  ends_none is = ends NoneOne is refl

  ends_paired : At Paired None → Becomes g (staged Paired w) h
  unfolding ruled
  ends_paired is = ends Paired is refl

  module _ {x k : ℕ} (longest : x ≡ longest_list n g.lists) (long : k ≡ list_length n (row g.lists x)) where
    pub two_ends : k < 2 → At Paired None → Becomes g (in_two n w) h
    unfolding in_two
    two_ends l is = becomes_as g h (rw (none_longer n g.lists longest long l) refl) (ends_paired is)

    pub two_goes_on : 2 ≤ k → At Cutting (Some x) → Becomes g (in_two n w) h
    unfolding in_two ruled
    two_goes_on l is =
        let most : list_length n (row g.lists x) ≤ n = count_most n _ in
        let inside = longest_inside n g.lists longest n (omega arith) (omega arith) in
        becomes_as g h (rw (some_longer n g.lists longest long l) refl) (stands Cutting is inside longest)

  pub one_none : some_emptied n w ≡ true → At NoneOne None → Becomes g (end_one g.task.whole n w) h
  unfolding end_one
  one_none some is = becomes_as g h (rw some refl) (ends_none is)

  pub one_lists : some_emptied n w ≡ false → g.task.whole ≡ false → At Paired None → Becomes g (end_one g.task.whole n w) h
  unfolding end_one
  one_lists none short is = becomes_as g h (rw (none, short) refl) (ends_paired is)

  pub one_two : (a : List ℕ) → some_emptied n w ≡ false → g.task.whole ≡ true → a ≡ aside_of n g.lists
      → Becomes (record g { aside = a }) (in_two n (work_of (record g { aside = a }))) h → Becomes g (end_one g.task.whole n w) h
  unfolding end_one
  one_two a none full e s = becomes_as g h (rw (none, full, ← e) refl) s

  pub one_ends : lowest_waiting n w ≡ n → Becomes g (end_one g.task.whole n w) h → Becomes g (in_one g.task.whole n w) h
  unfolding in_one
  one_ends e s = becomes_as g h (rw (eq-eqb _ _ e) refl) s

  pub one_goes_on : {low : ℕ} → (low < n) × (low ≡ lowest_waiting n w) → g.stage ≡ Proposing → At Proposing (Some low)
      → Becomes g (in_one g.task.whole n w) h
  unfolding in_one ruled
  one_goes_on {low} found e is =
      let waits : lowest_waiting n w ≢ n = λ z. omega (arith, found.0, found.1) in
      becomes_as g h (ap (λ s. staged s w) (sym e) ∙ rw (ne_eqb _ _ waits) refl) (stands Proposing is found.0 found.1)

-- what a fresh working of lists that keep the reader's promise becomes may go on
module _ (k : Task) (x : Option ℕ) (t : Square) (m : Progress) where
  abbrev pub fresh_working : Working
  fresh_working = record { task = k; stage = Proposing; next = x; lists = t; made = m; aside = nobody; cuts = 0 }

  pub begins : (h : Working) → m ≡ record { reach = nobody; received = nobody; proposals = 0 } → SquarePromise k.joints.count t
      → Becomes fresh_working (in_one k.whole k.joints.count (work_of fresh_working)) h → Lawful h
  begins h e promise s =
      let is : work_of fresh_working ≡ fresh t = rw e refl in
      let arrived = subst (Arrived k.whole k.joints.count t) (sym (s.1.0 ∙ ap (in_one k.whole k.joints.count) is)) begun_arrives in record {
        start = t;
        promise = subst (λ (k : Task). SquarePromise k.joints.count t) (sym s.0) promise;
        arrived = subst (λ (k : Task). Arrived k.whole k.joints.count t (work_of h)) (sym s.0) arrived;
        knows = s.1.1;
      }
