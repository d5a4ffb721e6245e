-- What a choice does to the working g and its marks: a step, a mark set, a return.
use mathlib.Core.Path.{◌≡◌, refl, sym, ◌∙◌, ap, subst, fun_ext}
use mathlib.Core.List.{List}
use mathlib.Core.Logic.{◌≢◌}
use Prim.Native.Nat.{ℕ, zero, suc, ◌≤◌, ◌<◌}
use native.Mathlib.Omega.{arith}
use lib.ListN.{length, get_or, set, replicate, length-set}
use lib.Seq.{get_or-set_same, get_or-set_other}
use borrow.Author.Tests.{eq-eqb, ne_eqb}
use Rattle.std.proofs.Common.{Option, Some, None, Result, Ok, Err, MatchOption, rules}
use Rattle.base.proofs.Cases.{case, eq_ne, lt_ge}
use Rattle.refusals.specs.declared.Refusal.{Refusal}
use Rattle.refusals.specs.declared.Refusal.TheVariants.{NoSuchMark}
use Rattle.refusals.specs.Numbers.{fault_in}
use Rattle.records.specs.declared.Record.{Record}
use Rattle.records.specs.Records as R
use Rattle.records.proofs.Acting.{mark_is, no_mark_is, return_is, no_return_is, step_is, kind_step, kind_mark, kind_return}
use Rattle.stages.specs.declared.Working.{Working}
use Rattle.stages.specs.Workings.{work_of}
use Rattle.stages.specs.Lawful.{Lawful}
use Rattle.moves.specs.Moved.{Moved}
use Rattle.moves.proofs.LawsLawful.{lawful_on}
use Rattle.marks.specs.Saved.{Saves, Restores}
use Rattle.acting.specs.Marks.{mark_of, marks_at, marked_at, AllLawful}

-- NO MARK SET
abbrev unset : ℕ → List (Option Working)
unset k = replicate k None

none_set : (k m : ℕ) → get_or (unset k) m None ≡ None
none_set zero m = refl
none_set (suc k) zero = refl
none_set (suc k) (suc m) = none_set k m

some_same : (g h : Working) → Some g ≡ Some h → g ≡ h
some_same g h e = search rules

none_some : (h : Working) → None ≡ Some h → ⊥
none_some h e = search rules

pub begins_unmarked : (g : Working) → marked_at g (unset 8) ≡ R.marked (work_of g) R.unmarked
unfolding marks_at
begins_unmarked g = ap (R.marked (work_of g)) (fun_ext (λ m. ap mark_of (none_set 8 m)))

pub begins_lawful : {g : Working} → Lawful g → AllLawful g (unset 8)
begins_lawful s = record {
  lawful = s;
  marks_lawful = λ m h e. absurd (none_some h (sym (none_set 8 m) ∙ e));
  eight = refl;
}

module _ (g : Working) (marks : List (Option Working)) where
  abbrev n : ℕ
  n = g.task.joints.count

  abbrev before_it : R.Marked
  before_it = marked_at g marks

  abbrev does : Record → R.Acted
  does r = R.acts g.task.whole n before_it r

  -- the working h of the same task, beside the same marks
  lawful_beside : (h : Working) → h.task ≡ g.task → Lawful h → AllLawful g marks → AllLawful h marks
  lawful_beside h task s all = record {
    lawful = s;
    marks_lawful = λ m k e. ((all.marks_lawful m k e).0, (all.marks_lawful m k e).1 ∙ sym task);
    eight = all.eight;
  }

  -- A STEP
  module _ (x : ℕ) (h : Working) (r : Result Unit Refusal) (moved : Moved x g h r) where
    pub step_acts : R.acted (fault_in r) (marked_at h marks) ≡ does (R.record_of 0 x)
    step_acts = sym (kind_step g.task.whole n before_it (R.record_of 0 x) refl ∙ step_is g.task.whole n before_it x (sym moved.1.0))

    pub step_lawful : AllLawful g marks → AllLawful h marks
    step_lawful all = lawful_beside h moved.0 (lawful_on all.lawful x r moved) all

  module _ (m : ℕ) where
    -- A MARK
    not_one_set : 8 ≤ m → R.acted 15 before_it ≡ does (R.record_of 1 m)
    not_one_set l = sym (kind_mark g.task.whole n before_it (R.record_of 1 m) refl ∙ no_mark_is before_it m l)

    module _ (l : m < 8) (eight : length marks ≡ 8) where
      same : (i : ℕ) → i ≡ m → get_or (set marks m (Some g)) i None ≡ Some g
      same i e = ap (λ j. get_or (set marks m (Some g)) j None) e ∙ get_or-set_same marks m (Some g) None (omega arith)

      other : (i : ℕ) → i ≢ m → get_or (set marks m (Some g)) i None ≡ get_or marks i None
      other i d = get_or-set_other marks m i (Some g) None d

      marks_set : (i : ℕ) → marks_at (set marks m (Some g)) i ≡ R.with_mark m (work_of g) (marks_at marks) i
      unfolding marks_at
      marks_set i =
          case (eq_ne i m)
          (λ e. rw (eq-eqb i m e) (ap mark_of (same i e)))
          (λ d. rw (ne_eqb i m d) (ap mark_of (other i d)))

      set_acts : R.acted 0 (marked_at g (set marks m (Some g))) ≡ does (R.record_of 1 m)
      set_acts =
          ap (λ (f : ℕ → R.Mark). R.acted 0 (R.marked (work_of g) f)) (fun_ext marks_set)
          ∙ sym (kind_mark g.task.whole n before_it (R.record_of 1 m) refl ∙ mark_is before_it m l)

      set_lawful : AllLawful g marks → AllLawful g (set marks m (Some g))
      set_lawful all = record {
        lawful = all.lawful;
        marks_lawful = λ i k h.
            case (eq_ne i m)
            (λ e. subst (λ (v : Working). Lawful v × (v.task ≡ g.task)) (some_same g k (sym (same i e) ∙ h)) (all.lawful, refl))
            (λ d. all.marks_lawful i k (sym (other i d) ∙ h));
        eight = length-set marks m (Some g) ∙ all.eight;
      }

    module _ (after : List (Option Working)) (r : Result Unit Refusal) (saves : Saves m g marks after r) where
      pub saves_acts : length marks ≡ 8 → R.acted (fault_in r) (marked_at g after) ≡ does (R.record_of 1 m)
      saves_acts eight =
          case (lt_ge m 8)
          (λ l. let is = saves.0 l in rw (is.0, is.1) (set_acts l eight))
          (λ l. let is = saves.1 l in rw (is.0, is.1) (not_one_set l))

      pub saves_lawful : AllLawful g marks → AllLawful g after
      saves_lawful all = case (lt_ge m 8) (λ l. rw (saves.0 l).1 (set_lawful l all.eight all)) (λ l. rw (saves.1 l).1 all)

    -- A RETURN
    not_set_acts : get_or marks m None ≡ None → R.acted 15 before_it ≡ does (R.record_of 2 m)
    unfolding marks_at
    not_set_acts e =
        sym (
        kind_return g.task.whole n before_it (R.record_of 2 m) refl
        ∙ case (lt_ge m 8) (λ l. return_is before_it m l (ap mark_of e)) (λ l. no_return_is before_it m l)
        )

    return_acts : (h : Working) → get_or marks m None ≡ Some h → m < 8 → R.acted 0 (marked_at h marks) ≡ does (R.record_of 2 m)
    unfolding marks_at
    return_acts h e l = sym (kind_return g.task.whole n before_it (R.record_of 2 m) refl ∙ return_is before_it m l (ap mark_of e))

    module _ (h : Working) (r : Result Unit Refusal) where
      -- by what the mark has saved
      abbrev By : Option Working → Type 0
      By saved = MatchOption saved ((r ≡ Err NoSuchMark) × (h ≡ g)) (λ v. (m < 8) × ((r ≡ Ok tt) × (h ≡ v)))

      acts_by : (saved : Option Working) → get_or marks m None ≡ saved → By saved → R.acted (fault_in r) (marked_at h marks) ≡ does (R.record_of 2 m)
      acts_by None e is = rw (is.0, is.1) (not_set_acts e)
      acts_by (Some v) e is = rw (is.1.0, is.1.1) (return_acts v e is.0)

      task_by : (saved : Option Working) → get_or marks m None ≡ saved → By saved → AllLawful g marks → h.task ≡ g.task
      task_by None e is all = ap (λ (v : Working). v.task) is.1
      task_by (Some v) e is all = ap (λ (v : Working). v.task) is.1.1 ∙ (all.marks_lawful m v e).1

      lawful_by : (saved : Option Working) → get_or marks m None ≡ saved → By saved → AllLawful g marks → AllLawful h marks
      lawful_by None e is all = rw is.1 all
      lawful_by (Some v) e is all = let back = all.marks_lawful m v e in rw is.1.1 (lawful_beside v back.1 back.0 all)

      module _ (restores : Restores m g marks h r) where
        pub restores_acts : R.acted (fault_in r) (marked_at h marks) ≡ does (R.record_of 2 m)
        restores_acts = acts_by (get_or marks m None) refl restores

        pub restores_task : AllLawful g marks → h.task ≡ g.task
        restores_task all = task_by (get_or marks m None) refl restores all

        pub restores_lawful : AllLawful g marks → AllLawful h marks
        restores_lawful all = lawful_by (get_or marks m None) refl restores all
