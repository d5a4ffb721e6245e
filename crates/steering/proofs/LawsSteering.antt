-- One turn of the records' loop and of the rule's: how they go on, and how they stop.
use mathlib.Core.Path.{◌≡◌, refl, sym, ◌∙◌, ap}
use mathlib.Core.Bool.{Bool, false}
use mathlib.Core.Logic.{◌≢◌}
use mathlib.Core.List.{List, [], ◌∷◌}
use Prim.Native.Nat.{ℕ, zero, suc, ◌+◌, ◌-◌, ◌/◌, ◌%◌, ◌≤◌, ◌<◌}
use native.Mathlib.Omega.{arith}
use native.Mathlib.Numerals.{add-one}
use lib.ListN.{length, get_or, drop, length-drop}
use lib.Seq.{drop-cons}
use lib.Dec.{ltb}
use borrow.Author.Tests.{ne_eqb, eq-eqb, le-ltb}
use Rattle.std.proofs.Common.{Option, Some, None, Result, Ok, Err, IsOk, rules}
use Rattle.std.specs.Simd.{first_chunks}
use Rattle.base.proofs.Cases.{case}
use Rattle.refusals.specs.declared.Refusal.{Refusal}
use Rattle.refusals.specs.Numbers.{fault_in}
use Rattle.refusals.proofs.Numbers.{number_some}
use Rattle.roommates.specs.declared.Stage.TheVariants.{Proposing}
use Rattle.roommates.specs.Lists.{Square}
use Rattle.roommates.specs.PhaseOne.{Work, phase_one}
use Rattle.roommates.specs.Moves.{in_one, Outcome, outcome, move, ruled, concluded, turns, carried_out}
use Rattle.roommates.proofs.Sound.{promise_sound}
use Rattle.roommates.proofs.Arrivals.{move_one, move_two, move_over}
use Rattle.roommates.proofs.Stages.{Over, each_stage}
use Rattle.roommates.proofs.WorkingsEnd.{rule_moves, stays}
use Rattle.roommates.proofs.RuleInOne.{phase_one_at_once, at_once_arrives}
use Rattle.records.specs.declared.Record.{Record}
use Rattle.records.specs.Records.{record_of, records_of, acts, follows, started, worked_by}
use Rattle.records.specs.Records as R
use Rattle.stages.specs.declared.Task.{Task}
use Rattle.stages.specs.declared.Working.{Working}
use Rattle.stages.specs.Workings.{work_of, Becomes, Begun}
use Rattle.stages.specs.Lawful.{Lawful}
use Rattle.moves.specs.Moved.{Moved}
use Rattle.moves.proofs.LawsLawful.{lawful_at}
use Rattle.acting.specs.Marks.{marked_at}
use Rattle.steering.specs.Ends.{records_in, ended, followed}

-- the rule names nobody at an end, and elsewhere a joint: the choice of none is refused
over_unnamed : (n : ℕ) (w : Work) → Over w.stage → ruled n w ≡ n
unfolding ruled
over_unnamed n w over = case over (λ e. rw e refl) (λ over. case over (λ e. rw e refl) (λ e. rw e refl))

none_moves : (whole : Bool) (n : ℕ) (w : Work) (x : ℕ) → n ≤ x → 11 ≤ (move whole n w x).refusal
none_moves whole n w x l =
    let none : ltb x n ≡ false = le-ltb x n l in
    case (each_stage w.stage)
    (λ e. rw (move_one whole n w x e, none) (omega arith))
    (λ past. case past (λ e. rw (move_two whole n w x e, none) (omega arith)) (λ over. rw (move_over whole n w x over) (omega arith)))

rule_more : (whole : Bool) (n f : ℕ) (w : Work) → concluded (suc f) whole n w ≡ concluded f whole n (move whole n w (ruled n w)).work_is
unfolding concluded
rule_more whole n f w = refl

-- not refused
pub no_fault : (r : Result Unit Refusal) → fault_in r ≡ 0 → IsOk r
no_fault (Ok v) e = search rules
no_fault (Err r) e = absurd (omega (arith, number_some r))

-- THE RECORDS, two bytes each
pub records_in_bytes : (k : ℕ) (bytes : List ℕ) → k ≡ length bytes / 2 → records_in (first_chunks 2 k bytes) ≡ records_of bytes
unfolding records_in records_of
records_in_bytes zero [] e = refl
records_in_bytes zero (x ∷ []) e = refl
records_in_bytes zero (x ∷ (y ∷ bytes)) e = absurd (omega arith)
records_in_bytes (suc k) [] e = absurd (omega arith)
records_in_bytes (suc k) (x ∷ []) e = absurd (omega arith)
records_in_bytes (suc k) (x ∷ (y ∷ bytes)) e = ap (λ rs. record_of x y ∷ rs) (records_in_bytes k bytes (omega arith))

pub none_in : (records : List (List ℕ)) → length records ≡ 0 → (g : Working) (s : R.Marked) → outcome 0 s.working ≡ followed g s records
unfolding records_in follows
none_in [] e g s = refl
none_in (r ∷ records) e g s = absurd (omega arith)

pub none_left : (records : List (List ℕ)) (i : ℕ) → length records ≤ i → (g : Working) (s : R.Marked) → outcome 0 s.working ≡ followed g s (drop i records)
none_left records i l g s = none_in (drop i records) (omega (arith, length-drop i records)) g s

-- record i acts on s, and all that follow on what it leaves
module _ (g h : Working) (marks after : List (Option Working)) (records : List (List ℕ)) (i : ℕ) (l : i < length records) where
  abbrev met : Record
  met = record_of (get_or (get_or records i []) 0 0) (get_or (get_or records i []) 1 0)

  cut_off : records_in (drop i records) ≡ met ∷ records_in (drop (i + 1) records)
  unfolding records_in
  cut_off = rw (drop-cons records i [] l, add-one i) refl

  -- it acts
  pub stops_at : (k : ℕ) → k ≢ 0 → R.acted k (marked_at h after) ≡ acts g.task.whole g.task.joints.count (marked_at g marks) met
      → outcome k (work_of h) ≡ followed g (marked_at g marks) (drop i records)
  unfolding follows
  stops_at k d e = rw (cut_off, ← e, ne_eqb k 0 d) refl

  pub goes_on : h.task ≡ g.task → R.acted 0 (marked_at h after) ≡ acts g.task.whole g.task.joints.count (marked_at g marks) met
      → followed h (marked_at h after) (drop (i + 1) records) ≡ followed g (marked_at g marks) (drop i records)
  unfolding follows
  goes_on task e =
      ap (λ (k : Task). follows k.whole k.joints.count (marked_at h after) (records_in (drop (i + 1) records))) task
      ∙ rw (cut_off, ← e) refl

module _ {g : Working} (s : Lawful g) where
  -- PHASE ONE AT ONCE
  module _ (one : g.stage ≡ Proposing) (h : Working) (e : Becomes g (in_one g.task.whole g.task.joints.count (phase_one g.task.joints.count (work_of g))) h) where
    pub lawful_past : Lawful h
    lawful_past = lawful_at s e.0 e.1.0 e.1.1 (at_once_arrives (promise_sound s.promise) s.arrived one)

    pub ended_past : ended (turns h.task.joints.count) h ≡ ended (turns g.task.joints.count) g
    ended_past =
        ap (λ (k : Task). concluded (turns k.joints.count) k.whole k.joints.count (work_of h)) e.0
        ∙ ap (concluded (turns g.task.joints.count) g.task.whole g.task.joints.count) e.1.0
        ∙ sym (phase_one_at_once (promise_sound s.promise) s.arrived one)

  -- THE RULE
  pub rule_ends : (f : ℕ) → g.next ≡ None → work_of g ≡ ended f g
  rule_ends f nobody =
      let unnamed : ruled g.task.joints.count (work_of g) ≡ g.task.joints.count = rw nobody at s.knows in
      sym (
      stays g.task.whole g.task.joints.count f (work_of g)
      (case (rule_moves g.task.whole g.task.joints.count s.arrived)
      (λ over. over)
      (λ o.
      let refused = none_moves g.task.whole g.task.joints.count (work_of g) (ruled g.task.joints.count (work_of g)) (omega (arith, unnamed)) in
      absurd (omega (arith, refused, o.0))))
      )

  pub rule_spent : (f i : ℕ) → f ≤ i → work_of g ≡ ended (f - i) g
  unfolding concluded
  rule_spent f i l = let z : f - i ≡ 0 = omega arith in rw z refl

  module _ (x : ℕ) (names : g.next ≡ Some x) (h : Working) (r : Result Unit Refusal) (m : Moved x g h r) where
    named : (x < g.task.joints.count) × (x ≡ ruled g.task.joints.count (work_of g))
    named = rw names at s.knows

    pub rule_unrefused : fault_in r ≡ 0
    rule_unrefused =
        case (rule_moves g.task.whole g.task.joints.count s.arrived)
        (λ over. absurd (omega (arith, named.0, named.1, over_unnamed g.task.joints.count (work_of g) over)))
        (λ o. ap (λ (o : Outcome). o.refusal) m.1.0 ∙ (ap (λ x. (move g.task.whole g.task.joints.count (work_of g) x).refusal) named.1 ∙ o.0))

    pub rule_on : (f i : ℕ) → i < f → ended (f - (i + 1)) h ≡ ended (f - i) g
    rule_on f i l =
        let k : f - i ≡ suc (f - (i + 1)) = omega arith in
        let w : work_of h ≡ (move g.task.whole g.task.joints.count (work_of g) (ruled g.task.joints.count (work_of g))).work_is
        = ap (λ (o : Outcome). o.work_is) m.1.0 ∙ ap (λ x. (move g.task.whole g.task.joints.count (work_of g) x).work_is) named.1 in
        ap (λ (k : Task). concluded (f - (i + 1)) k.whole k.joints.count (work_of h)) m.0
        ∙ ap (concluded (f - (i + 1)) g.task.whole g.task.joints.count) w
        ∙ sym (ap (λ j. ended j g) k ∙ rule_more g.task.whole g.task.joints.count (f - (i + 1)) (work_of g))

-- A WHOLE WORKING, which has begun as g
module _ (whole : Bool) (n : ℕ) (t : Square) (g : Working) (b : Begun whole n t g) (cs : List ℕ) where
  pub odd_so : length cs % 2 ≢ 0 → outcome 14 (work_of g) ≡ worked_by whole n t cs
  unfolding worked_by
  odd_so d = rw (ne_eqb (length cs % 2) 0 d) (ap (outcome 14) b.1.1)

  module _ (even : length cs % 2 ≡ 0) (records : List (List ℕ)) (are : records_in records ≡ records_of cs) where
    by_records : {o : Outcome} → o ≡ followed g (R.marked (work_of g) R.unmarked) records → worked_by whole n t cs ≡ carried_out whole n o
    unfolding worked_by
    by_records {o} is =
        let e : follows whole n (started whole n t) (records_of cs) ≡ o
        = ap (λ (w : Work). follows whole n (R.marked w R.unmarked) (records_of cs)) (sym b.1.1) ∙ rw (← are, ← b.0, ← b.1.0) (sym is) in
        rw (eq-eqb (length cs % 2) 0 even) (ap (carried_out whole n) e)

    pub refused_so : (h : Working) (k : ℕ) → k ≢ 0 → outcome k (work_of h) ≡ followed g (R.marked (work_of g) R.unmarked) records
        → outcome k (work_of h) ≡ worked_by whole n t cs
    refused_so h k d is = rw (by_records is, ne_eqb k 0 d) refl

    pub ended_so : (h l : Working) → outcome 0 (work_of h) ≡ followed g (R.marked (work_of g) R.unmarked) records → h.task ≡ g.task
        → work_of l ≡ ended (turns h.task.joints.count) h → outcome 0 (work_of l) ≡ worked_by whole n t cs
    ended_so h l is task e =
        let at : ended (turns h.task.joints.count) h ≡ concluded (turns n) whole n (work_of h)
        = ap (λ (k : Task). concluded (turns k.joints.count) k.whole k.joints.count (work_of h)) task ∙ rw (b.0, b.1.0) refl in
        rw (by_records is) (ap (outcome 0) (e ∙ at))
