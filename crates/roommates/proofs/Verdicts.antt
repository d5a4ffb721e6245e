-- What an ended working of settle says, and why: for each verdict what it ended in.
use mathlib.Core.Path.{◌≡◌, refl, ◌∙◌, ap}
use mathlib.Core.Bool.{true, false}
use Prim.Native.Nat.{ℕ, ◌*◌, ◌≤◌}
use native.Mathlib.Omega.{arith}
use Rattle.sheet.specs.Square.{at}
use Rattle.base.proofs.Tests.{never}
use Rattle.roommates.specs.declared.Stage.TheVariants.{NoneOne, NoneTwo, Paired}
use Rattle.roommates.specs.Lists.{Square}
use Rattle.roommates.specs.PhaseOne.{Work, some_emptied}
use Rattle.roommates.specs.PhaseTwo.{aside_of}
use Rattle.roommates.specs.Runs.{OneEnded, Cuts, ByCuts, Arrived, in_phase_one, none_in_one, lists_left, in_phase_two, none_in_two, all_short}
use Rattle.matching.specs.Matchings.{pair_count}
use Rattle.roommates.specs.Left.{pairing_of, listed_joints}
use Rattle.roommates.specs.Claims.{answer_of}
use Rattle.roommates.proofs.Basics.{Stable}
use Rattle.roommates.proofs.Sound.{Sound}
use Rattle.roommates.proofs.PairsWritten.{AtMostOne, paired_listed, listed_same, pairs_exact}
use Rattle.roommates.proofs.Stages.{Over, one_goes_on, two_goes_on}
use Rattle.roommates.proofs.PhaseTwoEnds.{partner_in, short_lists, left_sound, left_has, had_list, none_where_both_fail, pairing_stable}
use Rattle.roommates.proofs.EndsAgree.{ends_emptied, ends_listed}

-- single lists, reached by cuts from where phase one ended
pub record Pairing (n : ℕ) (t : Square) (w : Work) (u : Square) : Type 0 where
  pub one : OneEnded n t w
  pub unemptied : some_emptied n w ≡ false
  pub made : Cuts n (aside_of n w.lists) w.lists u
  pub short : AtMostOne n u

abbrev pub NoStable : Square → Type 0
NoStable t = (M : ℕ → ℕ) → Stable (at t) M → ⊥

pub data Says (n : ℕ) (t : Square) (w : Work) : Type 0 where
  says_none_one : w.stage ≡ NoneOne → (v : Work) → OneEnded n t v → some_emptied n v ≡ true → Says n t w
  says_none_two : w.stage ≡ NoneTwo → (v : Work) → OneEnded n t v → some_emptied n v ≡ false → NoStable t → Says n t w
  says_paired : w.stage ≡ Paired → (v : Work) → Pairing n t v w.lists → Says n t w

module _ {n : ℕ} {t : Square} (s : Sound n t) where
  cuts_made_lem : {w : Work} {k : ℕ} (b : ByCuts n t w k) → Cuts n (aside_of n b.one.lists) b.one.lists w.lists
  cuts_made_lem b = rw b.aside_is at b.made

  pub arrived_says : {w : Work} → Arrived true n t w → Over w.stage → Says n t w
  arrived_says (in_phase_one h r p l e) over = absurd (one_goes_on h over)
  arrived_says (none_in_one v h e bad) over = says_none_one (ap (λ u. u.stage) h) v e bad
  arrived_says (lists_left wh v h e ok) over = absurd (never _ refl wh)
  arrived_says (in_phase_two wh h b x l e) over = absurd (two_goes_on h over)
  arrived_says (none_in_two wh h b x l long c) over =
      says_none_two h b.one b.ended b.unemptied
      (λ M. none_where_both_fail s b.ended b.unemptied (cuts_made_lem b) x long (rw b.aside_is at c))
  arrived_says {w} (all_short wh h b short) over =
      says_paired h b.one record { one = b.ended; unemptied = b.unemptied; made = cuts_made_lem b; short = short_lists n w.lists short }

  -- two joints to a pair: those with a list left where phase one ended, in whatever order
  pub pairing_count : {w v : Work} {u : Square} → Pairing n t w u → OneEnded n t v → 2 * pair_count (pairing_of n u) ≡ listed_joints n v.lists
  pairing_count {w} {v} {u} p e =
      let few : n ≤ 128 = s.few_joints in
      let small : n ≤ 255 = omega arith in
      let ok : some_emptied n v ≡ false = ends_emptied s e p.one ∙ p.unemptied in
      pairs_exact n u (left_sound s p.one p.unemptied p.made) p.short
      ∙ paired_listed n u small
      ∙ listed_same n u v.lists
      (λ a l h. ends_listed s p.one e p.unemptied ok a (had_list s p.one p.unemptied p.made a h))
      (λ a l h. left_has s p.one p.unemptied p.made a (ends_listed s e p.one ok p.unemptied a h))

  pub pairing_counts : {w v : Work} {u u' : Square} → Pairing n t w u → Pairing n t v u' → pair_count (pairing_of n u) ≡ pair_count (pairing_of n u')
  pairing_counts p q = omega (arith, pairing_count p q.one, pairing_count q q.one)

  pub pairing_is_stable : {w : Work} {u : Square} → Pairing n t w u → Stable (at t) (partner_in n u)
  pairing_is_stable p = pairing_stable s p.one p.unemptied p.made p.short

  -- one end of phase one leaves somebody who received with an empty list, another does not
  apart : {v w : Work} → OneEnded n t v → OneEnded n t w → some_emptied n v ≡ true → some_emptied n w ≡ false → ⊥
  apart d e x y = never _ x (ends_emptied s d e ∙ y)

  -- no two workings that were not refused answer otherwise
  pub same_answer : {w v : Work} → Says n t w → Says n t v → answer_of n w ≡ answer_of n v
  same_answer (says_none_one v w e bad) (says_none_one v' w' e' bad') = rw (v, v') refl
  same_answer (says_none_one v w e bad) (says_none_two v' w' e' ok nil) = absurd (apart e e' bad ok)
  same_answer (says_none_one v w e bad) (says_paired v' w' p) = absurd (apart e p.one bad p.unemptied)
  same_answer (says_none_two v w e ok nil) (says_none_one v' w' e' bad) = absurd (apart e' e bad ok)
  same_answer (says_none_two v w e ok nil) (says_none_two v' w' e' ok' nil') = rw (v, v') refl
  same_answer (says_none_two v w e ok nil) (says_paired v' w' p) = absurd (nil _ (pairing_is_stable p))
  same_answer (says_paired v w p) (says_none_one v' w' e bad) = absurd (apart e p.one bad p.unemptied)
  same_answer (says_paired v w p) (says_none_two v' w' e ok nil) = absurd (nil _ (pairing_is_stable p))
  same_answer (says_paired v w p) (says_paired v' w' q) = rw (v, v', pairing_counts p q) refl
