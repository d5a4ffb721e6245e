-- A step of the definitions is a row of proposals of the theory: whatever each proposal keeps, a step keeps.
use mathlib.Core.Path.{◌≡◌, refl, ◌∙◌}
use mathlib.Core.Bool.{true}
use mathlib.Core.Logic.{inr}
use Prim.Native.Nat.{ℕ, ◌≤◌, ◌<◌}
use native.Mathlib.Omega.{arith}
use lib.ListN.{get_or, set, length-set}
use lib.Seq.{get_or-set_same, get_or-set_other}
use Rattle.sheet.specs.Square.{at}
use Rattle.base.proofs.Cases.{case, eq_ne}
use Rattle.roommates.specs.Lists.{row, best_band}
use Rattle.roommates.specs.PhaseOne.{Work, waits, step}
use Rattle.roommates.proofs.Proposals.{State}
use Rattle.roommates.proofs.StrikesCompose.{was_there}
use Rattle.roommates.proofs.Rows.{best_least, best_attained}
use Rattle.roommates.proofs.Waiting.{waits_listed}
use Rattle.roommates.proofs.Sound.{Shrunk, shrunk_sound}
use Rattle.roommates.proofs.EntryCounts.{in_band_some}
use Rattle.roommates.proofs.States.{state_of, Steady}
use Rattle.roommates.proofs.StepProposals.{Kept, mid, receive_length, going, turns}

-- the band that p proposes to in its next step
abbrev best_of : ℕ → Work → ℕ → ℕ
best_of n w p = best_band n (row w.lists p)

has_best : (n : ℕ) (w : Work) (p : ℕ) → waits n w p ≡ true → 0 < best_of n w p
has_best n w p waiting =
    let r : (j : ℕ) × (j < n) × (0 < at w.lists p j) = waits_listed n (get_or w.reach p 0) (row w.lists p) waiting in
    (best_least n (row w.lists p) r.0 r.1 r.2).0

-- a step makes a proposal
pub step_proposes : (n : ℕ) (w : Work) (p : ℕ) → waits n w p ≡ true → w.proposals < (step n w p).proposals
unfolding step
step_proposes n w p waiting =
    let l = row w.lists p in
    let r : (j : ℕ) × (j < n) × (get_or l j 0 ≡ best_band n l) = best_attained n l (has_best n w p waiting) in
    omega (arith, in_band_some n (best_band n l) l r.0 r.1 r.2)

pub step_cuts : (n : ℕ) (w : Work) (p : ℕ) → (step n w p).cuts ≡ w.cuts
unfolding step
step_cuts n w p = refl

module _ {n : ℕ} {w : Work} (s : Steady n w) (p : ℕ) (inside : p < n) (waiting : waits n w p ≡ true) where
  least : (r : ℕ) → 0 < at w.lists p r → best_of n w p ≤ at w.lists p r
  least r h = (best_least n (row w.lists p) r (s.sound.inside p r h).1 h).1

  reached : get_or (set w.reach p (best_of n w p)) p 0 ≡ best_of n w p
  reached = get_or-set_same w.reach p (best_of n w p) 0 (omega (arith, s.reach_length, s.sound.few_joints))

  pub step_shrunk : Shrunk w.lists (step n w p).lists
  unfolding step
  step_shrunk = (going s.sound p (best_of n w p) (has_best n w p waiting) (set w.reach p (best_of n w p)) n).shrunk

  pub step_steady : Steady n (step n w p)
  unfolding step
  step_steady =
      let k = best_of n w p in
      let m : Shrunk w.lists (step n w p).lists = step_shrunk in
      record {
        sound = shrunk_sound s.sound m;
        reach_length = length-set w.reach p k ∙ s.reach_length;
        received_length = receive_length n (row w.lists p) k w.received ∙ s.received_length;
        heads = λ a b h.
            let e : at (step n w p).lists a b ≡ at w.lists a b = m.below.kept a b h in
            let o : 0 < at w.lists a b = was_there m.below a b h in
            case (eq_ne a p)
            (λ x. rw (e, x, reached) (least b (rw x at o)))
            (λ x. rw (e, get_or-set_other w.reach p a k 0 x) (s.heads a b o));
      }

  pub step_keeps : {Q : State → Type 0} → Kept Q → Q (state_of w) → Q (state_of (step n w p))
  unfolding step
  step_keeps {Q} kept h =
      let k = best_of n w p in
      let reach = set w.reach p k in
      let start : Q (mid p reach 0 w.lists w.received)
      = kept.by_fewer (state_of w) (mid p reach 0 w.lists w.received).Stands
      (λ a b st. case st.1 (λ x. rw (get_or-set_other w.reach p a k 0 x) at st.0) (λ x. absurd (omega arith))) h in
      kept.by_fewer (mid p reach n (step n w p).lists (step n w p).received) (state_of (step n w p)).Stands
      (λ a b st. (st, inr (step_steady.sound.inside a b (omega arith)).1))
      (turns s.sound p k (has_best n w p waiting) reach inside reached least kept w.received s.received_length start n (omega arith))
