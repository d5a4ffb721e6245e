-- What an ended working of shorten says: none exactly where settle says none in phase one, and else the same lists.
use mathlib.Core.Path.{◌≡◌, refl, ◌∙◌, ap}
use mathlib.Core.Bool.{true, false}
use mathlib.Core.Logic.{◌⊎◌, inl, inr, ◌≢◌, ◌↔◌}
use Prim.Native.Nat.{ℕ}
use Rattle.base.proofs.Tests.{never}
use Rattle.roommates.specs.declared.Stage.TheVariants.{NoneOne, Paired}
use Rattle.roommates.specs.Lists.{Square}
use Rattle.roommates.specs.PhaseOne.{Work, some_emptied}
use Rattle.roommates.specs.Moves.{staged}
use Rattle.roommates.specs.Runs.{OneEnded, Arrived, in_phase_one, none_in_one, lists_left, in_phase_two, none_in_two, all_short}
use Rattle.roommates.specs.Left.{list_bytes}
use Rattle.roommates.proofs.Sound.{Sound}
use Rattle.roommates.proofs.EntriesWritten.{bytes_same}
use Rattle.roommates.proofs.Stages.{Over, one_two, one_paired, one_goes_on}
use Rattle.roommates.proofs.EndsAgree.{ends_agree, ends_emptied}
use Rattle.roommates.proofs.Verdicts.{Says, says_none_one, says_none_two, says_paired}

-- none, or the lists where phase one ended
pub data Shortened (n : ℕ) (t : Square) (w : Work) : Type 0 where
  left_none : (v : Work) → w ≡ staged NoneOne v → OneEnded n t v → some_emptied n v ≡ true → Shortened n t w
  left_lists : (v : Work) → w ≡ staged Paired v → OneEnded n t v → some_emptied n v ≡ false → Shortened n t w

pub arrived_shortened : {n : ℕ} {t : Square} {w : Work} → Arrived false n t w → Over w.stage → Shortened n t w
arrived_shortened (in_phase_one h r p l e) over = absurd (one_goes_on h over)
arrived_shortened (none_in_one v h e bad) over = left_none v h e bad
arrived_shortened (lists_left wh v h e ok) over = left_lists v h e ok
arrived_shortened (in_phase_two wh h b x l e) over = absurd (never _ wh refl)
arrived_shortened (none_in_two wh h b x l e f) over = absurd (never _ wh refl)
arrived_shortened (all_short wh h b short) over = absurd (never _ wh refl)

module _ {n : ℕ} {t : Square} where
  pub none_or_lists : {w : Work} → Shortened n t w → (w.stage ≡ NoneOne) ⊎ (w.stage ≡ Paired)
  none_or_lists (left_none v h e bad) = inl (ap (λ u. u.stage) h)
  none_or_lists (left_lists v h e ok) = inr (ap (λ u. u.stage) h)

module _ {n : ℕ} {t : Square} (s : Sound n t) where
  -- whether settle says none in phase one, by any end of phase one
  settle_emptied : {w v : Work} → Says n t w → OneEnded n t v → (w.stage ≡ NoneOne) ↔ (some_emptied n v ≡ true)
  settle_emptied (says_none_one h v e bad) d = (λ h. ends_emptied s d e ∙ bad, λ x. h)
  settle_emptied (says_none_two h v e ok nil) d = (λ x. absurd (one_two x h), λ x. absurd (never _ x (ends_emptied s d e ∙ ok)))
  settle_emptied (says_paired h v p) d = (λ x. absurd (one_paired x h), λ x. absurd (never _ x (ends_emptied s d p.one ∙ p.unemptied)))

  pub none_alike : {w u : Work} → Shortened n t w → Says n t u → (w.stage ≡ NoneOne) ↔ (u.stage ≡ NoneOne)
  none_alike (left_none v h e bad) k = (λ x. (settle_emptied k e).1 bad, λ x. ap (λ u. u.stage) h)
  none_alike (left_lists v h e ok) k = (
    λ x. absurd (one_paired x (ap (λ u. u.stage) h)),
    λ x. absurd (never _ ((settle_emptied k e).0 x) ok),
  )

  pub same_bytes : {w u : Work} → Shortened n t w → Shortened n t u → w.stage ≢ NoneOne → list_bytes n w.lists ≡ list_bytes n u.lists
  same_bytes (left_none v h e bad) k d = absurd (d (ap (λ u. u.stage) h))
  same_bytes (left_lists v h e ok) (left_none v' h' e' bad') d = absurd (never _ (ends_emptied s e e' ∙ bad') ok)
  same_bytes (left_lists v h e ok) (left_lists v' h' e' ok') d =
      rw (h, h') (bytes_same n v.lists v'.lists (λ a b la lb. ends_agree s e e' ok ok' a b))
