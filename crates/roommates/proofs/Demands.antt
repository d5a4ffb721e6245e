-- Demands 2 and 3 (Theorems 3.9 and 5.1): every square that the reader promises is settled, and so every accepted sheet.
use mathlib.Core.Path.{◌≡◌, refl, sym, ◌∙◌, ap}
use mathlib.Core.Bool.{true, false}
use mathlib.Core.Logic.{◌≢◌}
use mathlib.Core.List.{List, []}
use Prim.Native.Nat.{ℕ}
use Rattle.sheet.specs.Format.{joints}
use Rattle.sheet.specs.Square.{SquarePromise, square_of}
use Rattle.sheet.proofs.PromiseKept.{accepted_square}
use Rattle.base.proofs.Cases.{case, both_ways}
use Rattle.base.proofs.Tests.{never}
use Rattle.blocking.specs.Blocking.{is_super_stable}
use Rattle.roommates.specs.declared.Stage.TheVariants.{Paired}
use Rattle.roommates.specs.Lists.{Square}
use Rattle.roommates.specs.PhaseOne.{Work}
use Rattle.roommates.specs.Moves.{Outcome, moves, worked, settles, shortens}
use Rattle.roommates.specs.Runs.{OneEnded, Arrived}
use Rattle.roommates.specs.Claims.{stage_of, Answer, Settled, Demands}
use Rattle.roommates.proofs.Sound.{Sound, promise_sound, shrunk_sound}
use Rattle.roommates.proofs.FuelLasts.{phase_one_ends}
use Rattle.roommates.proofs.CutsStrike.{start_sound}
use Rattle.roommates.proofs.Stages.{Over, one_paired, two_paired}
use Rattle.roommates.proofs.Arrivals.{worked_arrives}
use Rattle.roommates.proofs.WorkingsEnd.{arrived_shrunk, arrived_few, shorten_uncut, worked_ends}
use Rattle.roommates.proofs.PhaseOneEnds.{none_where_emptied}
use Rattle.roommates.proofs.EndsAgree.{ends_emptied}
use Rattle.roommates.proofs.SuperStable.{super_stable}
use Rattle.roommates.proofs.Verdicts.{Pairing, Says, says_none_one, says_none_two, says_paired, arrived_says, pairing_count, pairing_counts, same_answer}
use Rattle.roommates.proofs.PairedAlike.{pairing_super, unpaired_alike}
use Rattle.roommates.proofs.Shortenings.{Shortened, left_none, left_lists, arrived_shortened, none_or_lists, none_alike, same_bytes}

module _ {n : ℕ} {t : Square} (promise : SquarePromise n t) where
  s : Sound n t
  s = promise_sound promise

  -- a working that says paired has a pairing
  pairing : {w : Work} → Says n t w → w.stage ≡ Paired → (v : Work) × Pairing n t v w.lists
  pairing (says_none_one h v e bad) k = absurd (one_paired h k)
  pairing (says_none_two h v e ok nil) k = absurd (two_paired h k)
  pairing (says_paired h v p) k = (v, p)

  none_is : {w : Work} → Says n t w → w.stage ≢ Paired → (m : List ℕ) → is_super_stable n t m ≡ true → ⊥
  none_is (says_none_one h v e bad) d m k = none_where_emptied s e (super_stable promise m k) bad
  none_is (says_none_two h v e ok nil) d m k = nil _ (super_stable promise m k)
  none_is (says_paired h v p) d m k = d h

  -- shorten's lists, where settle has a pairing
  lists_of : {w v : Work} {u : Square} → Pairing n t v u → Shortened n t w → (x : Work) × (OneEnded n t x × (w.lists ≡ x.lists))
  lists_of p (left_none v h e bad) = absurd (never _ (ends_emptied s p.one e ∙ bad) p.unemptied)
  lists_of p (left_lists v h e ok) = (v, (e, ap (λ u. u.lists) h))

  -- whatever arrives by the rules, and ends where nothing is refused, is settled
  module _ (settle shorten : List ℕ → Outcome)
      (to-settle : (cs : List ℕ) → Arrived true n t (settle cs).work_is) (to-shorten : (cs : List ℕ) → Arrived false n t (shorten cs).work_is)
      (settle_ends : (cs : List ℕ) → (settle cs).refusal ≡ 0 → Over (stage_of (settle cs)))
      (shorten_ends : (cs : List ℕ) → (shorten cs).refusal ≡ 0 → Over (stage_of (shorten cs)))
      (free : ((settle []).refusal ≡ 0) × ((shorten []).refusal ≡ 0)) where
    says : (cs : List ℕ) → (settle cs).refusal ≡ 0 → Says n t (settle cs).work_is
    says cs z = arrived_says s (to-settle cs) (settle_ends cs z)

    short : (cs : List ℕ) → (shorten cs).refusal ≡ 0 → Shortened n t (shorten cs).work_is
    short cs z = arrived_shortened (to-shorten cs) (shorten_ends cs z)

    one_answer : (cs ds : List ℕ) → (settle cs).refusal ≡ 0 → (settle ds).refusal ≡ 0 → stage_of (settle cs) ≡ stage_of (settle ds)
    one_answer cs ds y z = ap (λ (a : Answer). a.verdict) (same_answer s (says cs y) (says ds z))

    pub all_settled : Settled n t settle shorten
    all_settled = record {
      is_super = λ cs z v. pairing_super promise (pairing (says cs z) v).1;
      none_is = λ cs m z d.
          case (both_ways (is_super_stable n t m)) (λ h. absurd (none_is (says cs z) d m h)) (λ h. h);
      says_one = settle_ends;
      same_verdict = one_answer;
      same_count = λ cs ds y z v.
          pairing_counts s (pairing (says cs y) v).1 (pairing (says ds z) (sym (one_answer cs ds y z) ∙ v)).1;
      one_answer = λ cs ds y z. same_answer s (says cs y) (says ds z);
      shorten_says = λ cs z. none_or_lists (short cs z);
      shorten_none = λ cs ds y z. none_alike s (short cs y) (says ds z);
      same_lists = λ cs ds y z d. same_bytes s (short cs y) (short ds z) d;
      same_joints = λ cs m a z v super l.
          let p = pairing (says cs z) v in
          unpaired_alike promise p.1.one m super a l ∙ sym (unpaired_alike promise p.1.one _ (pairing_super promise p.1) a l);
      count_is = λ cs ds z v y.
          let p = pairing (says cs z) v in
          let l = lists_of p.1 (short ds y) in
          rw l.1.1 (pairing_count s p.1 l.1.0);
      few_proposals = λ cs. ((arrived_few s (to-settle cs)).0, (arrived_few s (to-shorten cs)).0);
      few_cuts = λ cs. ((arrived_few s (to-settle cs)).1, shorten_uncut (to-shorten cs));
      settle_arrived = to-settle;
      shorten_arrived = to-shorten;
      trials_end = λ cs v. (phase_one_ends (start_sound (shrunk_sound s (arrived_shrunk s (to-settle cs))) v)).quiet;
      no_choices = free;
    }

pub settled : (n : ℕ) (t : Square) → SquarePromise n t → Settled n t (settles n t) (shortens n t)
unfolding worked moves
settled n t promise =
    let s : Sound n t = promise_sound promise in
    all_settled promise (settles n t) (shortens n t) worked_arrives worked_arrives (worked_ends true n s) (worked_ends false n s) (refl, refl)

pub demands : Demands
demands s h = settled (joints s) (square_of s) (accepted_square s h)
