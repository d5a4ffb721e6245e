-- A choice of x that is refused, and one that moves the working g to h.
use mathlib.Core.Path.{◌≡◌, refl, sym, ◌∙◌, ap}
use mathlib.Core.Bool.{true, false, ◌&&◌, true≢false, false≢true}
use Prim.Native.Nat.{ℕ, ◌+◌}
use native.Mathlib.Numerals.{add-one}
use lib.Dec.{ltb}
use Rattle.std.proofs.Common.{None, Ok, Err}
use Rattle.refusals.specs.declared.Refusal.{Refusal}
use Rattle.refusals.specs.declared.Refusal.TheVariants.{ChoiceDoesNotWait, ChoiceHasNoList}
use Rattle.refusals.specs.Numbers.{number_of}
use Rattle.roommates.specs.declared.Stage.{Stage}
use Rattle.roommates.specs.declared.Stage.TheVariants.{Proposing, Cutting, NoneTwo}
use Rattle.roommates.specs.Lists.{Square}
use Rattle.roommates.specs.PhaseOne.{Work, waits, step}
use Rattle.roommates.specs.PhaseTwo.{Cut, kept, neither, cut_at, longer}
use Rattle.roommates.specs.Moves.{outcome, staged, with_cut, in_two, in_one, after_cut, move_in, move, ruled}
use Rattle.cuts.specs.Kept.{is_kept, lists_after}
use Rattle.stages.specs.declared.Working.{Working}
use Rattle.stages.specs.Workings.{work_of, Becomes}
use Rattle.moves.specs.Moved.{Moved}

-- what a cut leaves, by its parts
after_kept : (n : ℕ) (w : Work) (c : Cut) {u : Square} → is_kept c ≡ true → u ≡ lists_after w.lists c → after_cut n w c ≡ in_two n (with_cut u w)
after_kept n w (kept v) h e = ap (λ t. in_two n (with_cut t w)) (sym e)
after_kept n w neither h e = absurd (false≢true h)

after_neither : (n : ℕ) (w : Work) (c : Cut) {u : Square} → is_kept c ≡ false → u ≡ lists_after w.lists c → after_cut n w c ≡ staged NoneTwo (with_cut u w)
after_neither n w (kept v) h e = absurd (true≢false h)
after_neither n w neither h e = ap (λ t. staged NoneTwo (with_cut t w)) (sym e)

module _ (x : ℕ) (g h : Working) where
  abbrev n : ℕ
  n = g.task.joints.count

  abbrev w : Work
  w = work_of g

  by_stage : (s : Stage) → g.stage ≡ s → move g.task.whole n w x ≡ move_in s g.task.whole n w x
  unfolding move
  by_stage s e = ap (λ s. move_in s g.task.whole n w x) e

  -- in stage s: refused, or moved to the working v
  pub refused : (s : Stage) (r : Refusal) → g.stage ≡ s → move_in s g.task.whole n w x ≡ outcome (number_of r) w → Moved x g g (Err r)
  refused s r e is = (refl, (sym (by_stage s e ∙ is), λ rule. rule))

  moved : (s : Stage) {v : Work} → g.stage ≡ s → move_in s g.task.whole n w x ≡ outcome 0 v → Becomes g v h → Moved x g h (Ok tt)
  moved s e is b = (b.0, (ap (outcome 0) b.1.0 ∙ sym (by_stage s e ∙ is), λ rule. b.1.1))

  module _ (e : g.stage ≡ Proposing) where
    pub refused_one : (ltb x n && waits n w x) ≡ false → Moved x g g (Err ChoiceDoesNotWait)
    refused_one never = refused Proposing ChoiceDoesNotWait e (rw never refl)

    pub moved_one : (ltb x n && waits n w x) ≡ true → {v : Work} → v ≡ step n w x → Becomes g (in_one g.task.whole n v) h → Moved x g h (Ok tt)
    moved_one may is b = moved Proposing e (rw (may, is) refl) b

  module _ (e : g.stage ≡ Cutting) where
    pub refused_two : (ltb x n && longer n g.lists x) ≡ false → Moved x g g (Err ChoiceHasNoList)
    refused_two never = refused Cutting ChoiceHasNoList e (rw never refl)

    -- after one more cut, as the code counts it
    module _ (t : Square) (may : (ltb x n && longer n g.lists x) ≡ true) (is-t : t ≡ lists_after g.lists (cut_at n g.aside g.lists x)) where
      abbrev counted : Working
      counted = record g { lists = t; cuts = g.cuts + 1 }

      pub moved_two : true ≡ is_kept (cut_at n g.aside g.lists x) → Becomes g (in_two n (work_of counted)) h → Moved x g h (Ok tt)
      moved_two k b = moved Cutting e (rw (may, after_kept n w _ (sym k) is-t, add-one g.cuts) refl) b

      pub none_two : false ≡ is_kept (cut_at n g.aside g.lists x) → h ≡ record counted { stage = NoneTwo; next = None } → Moved x g h (Ok tt)
      unfolding ruled
      none_two k b =
          moved Cutting {v = staged NoneTwo (work_of counted)} e (rw (may, after_neither n w _ (sym k) is-t, add-one g.cuts) refl) (rw b (refl, (refl, refl)))
