-- Along every run of phase one from fresh lists: the invariant holds, a super-stable matching stays on the lists, and an end that
-- leaves nobody who received with an empty list stays under them.
use mathlib.Core.Path.{refl}
use Prim.Native.Nat.{ℕ, ◌<◌}
use Rattle.sheet.specs.Square.{at}
use Rattle.roommates.specs.Lists.{Square}
use Rattle.roommates.specs.PhaseOne.{Work, fresh}
use Rattle.roommates.specs.Runs.{Run}
use Rattle.roommates.proofs.Basics.{Bands, Below, Stable, On}
use Rattle.roommates.proofs.Proposals.{Invariant, Ended}
use Rattle.roommates.proofs.InvariantStart.{Fresh, Invariant-start, Invariant-fewer}
use Rattle.roommates.proofs.InvariantStep.{Invariant-step}
use Rattle.roommates.proofs.Survives.{Survives}
use Rattle.roommates.proofs.Confluence.{NoneEmpty, Under, Under-start, Under-step}
use Rattle.roommates.proofs.Sound.{Sound}
use Rattle.roommates.proofs.States.{state_of, fresh_steady, fresh_stands, fresh_received}
use Rattle.roommates.proofs.StepProposals.{Kept}
use Rattle.roommates.proofs.Running.{run_keeps}

pub fresh_start : (t : Square) → Fresh (at t) (state_of (fresh t))
fresh_start t = record { whole = λ a b. refl; unreceived = fresh_received t; unproposed = fresh_stands t }

pub fresh_invariant : {n : ℕ} {t : Square} → Sound n t → Invariant (at t) (state_of (fresh t))
fresh_invariant {n} {t} s = Invariant-start s.both (fresh_start t)

kept_invariant : (T₀ : Bands) → Kept (λ w. Invariant T₀ w)
kept_invariant T₀ = record { by_proposal = λ w w' p q i m. Invariant-step i m; by_fewer = λ w st f i. Invariant-fewer st f i }

pub run_invariant : {n : ℕ} {t : Square} {w : Work} → Sound n t → Run n (fresh t) w → Invariant (at t) (state_of w)
run_invariant {n} {t} s r = run_keeps (kept_invariant (at t)) r (fresh_steady s) (fresh_invariant s)

-- no pair of the matching is struck
pub run_survives : {n : ℕ} {t : Square} {w : Work} {P : Bands} {M : ℕ → ℕ} → Sound n t → Run n (fresh t) w
    → ((a b : ℕ) → 0 < P a b → 0 < P b a) → Stable P M → Below (at t) P → On P (at t) M → On P (at w.lists) M
run_survives {n} {t} {w} {P} {M} s r bothP stable under on =
    (run_keeps {Q = λ x. Invariant (at t) x × On P x.lists M}
    record {
      by_proposal = λ x y p q h m. (Invariant-step h.0 m, Survives bothP stable under h.1 h.0 m);
      by_fewer = λ x st f h. (Invariant-fewer st f h.0, h.1);
    }
    r (fresh_steady s) (fresh_invariant s, on)).1

-- whatever order the other run took
pub run_under : {n : ℕ} {t : Square} {w w₂ : Work} → Sound n t → Run n (fresh t) w
    → Run n (fresh t) w₂ → Ended (state_of w₂) → NoneEmpty (state_of w₂) → Under (state_of w₂) (state_of w)
run_under {n} {t} {w} {w₂} s r r₂ ended none =
    let inv₂ : Invariant (at t) (state_of w₂) = run_invariant s r₂ in
    (run_keeps {Q = λ x. Invariant (at t) x × Under (state_of w₂) x}
    record {
      by_proposal = λ x y p q h m. (Invariant-step h.0 m, Under-step inv₂ ended none h.0 h.1 m);
      by_fewer = λ x st f h. (Invariant-fewer st f h.0, record { fewer = h.1.fewer; more = h.1.more });
    }
    r (fresh_steady s) (fresh_invariant s, Under-start inv₂ (fresh_start t))).1
