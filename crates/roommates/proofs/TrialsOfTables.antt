-- A trial of the definitions, from a table: it begins with the theory's trim, ends like phase one, and keeps a table where it passes.
use mathlib.Core.Path.{◌≡◌, sym}
use mathlib.Core.Bool.{true}
use Prim.Native.Nat.{ℕ, ◌≤◌, ◌<◌}
use native.Mathlib.Omega.{arith}
use Rattle.sheet.specs.Square.{at}
use Rattle.base.proofs.Cases.{case}
use Rattle.roommates.specs.Lists.{Square, row, worst_band, first_on}
use Rattle.roommates.specs.PhaseOne.{Work, fresh, phase_one}
use Rattle.roommates.specs.Runs.{OneEnded}
use Rattle.roommates.specs.PhaseTwo.{trial_start, trial, aside_of}
use Rattle.roommates.proofs.Basics.{Bands, Below, Stable, On}
use Rattle.roommates.proofs.Proposals.{Trim}
use Rattle.roommates.proofs.StrikesCompose.{below_trans, trim_below}
use Rattle.roommates.proofs.Rows.{worst_most, worst_attained}
use Rattle.roommates.proofs.FirstOn.{first_best}
use Rattle.roommates.proofs.Tables.{Table}
use Rattle.roommates.proofs.TrialKeepsTable.{trial_table}
use Rattle.roommates.proofs.Sound.{Sound}
use Rattle.roommates.proofs.Trims.{trial_trim}
use Rattle.roommates.proofs.FuelLasts.{phase_one_ends}
use Rattle.roommates.proofs.CutsStrike.{start_sound, passes}
use Rattle.roommates.proofs.RunsKeep.{run_survives}
use Rattle.roommates.proofs.HasList.{HasList, has_list, on_list}
use Rattle.roommates.proofs.NoneEmptied.{none_emptied_has, has_none_emptied}
use Rattle.roommates.proofs.PhaseOneEnds.{one_end, one_sound}

-- the working in which a trial at v ends
abbrev trial_work : ℕ → Square → ℕ → Work
trial_work n t v = phase_one n (fresh (trial_start n t v))

trial_one : {n : ℕ} {t : Square} → Sound n t → (v : ℕ) → OneEnded n (trial_start n t v) (trial_work n t v)
trial_one s v = phase_one_ends (start_sound s v)

module _ {n : ℕ} {P : Bands} {one t : Square} (s : Sound n t) (s₁ : Sound n one) (tab : Table P (HasList n one) (at t)) where
  pub first_is : (x : ℕ) → HasList n one x → first_on n (row t x) ≡ tab.first x
  first_is x h =
      let f = tab.first x in
      let z = first_on n (row t x) in
      let l : 0 < at t x f = tab.has_first x h in
      let m : (z < n) × (0 < at t x z) × (at t x z ≤ at t x f) = first_best n (row t x) f (s.inside x f l).1 l in
      case (tab.best x z m.1) (λ e. e) (λ k. absurd (omega arith))

  worst_is : (v : ℕ) → HasList n one v → worst_band n (row t v) ≡ at t v (tab.last v)
  worst_is v h =
      let k = tab.last v in
      let l : 0 < at t v k = tab.has_last v h in
      let m : at t v k ≤ worst_band n (row t v) = worst_most n (row t v) k (s.inside v k l).1 in
      let j : (j : ℕ) × (j < n) × (at t v j ≡ worst_band n (row t v)) = worst_attained n (row t v) (omega arith) in
      let e : at t v j.0 ≡ worst_band n (row t v) = j.2 in
      omega (arith, tab.worst v j.0 (omega arith))

  pub start_trim : (v : ℕ) → HasList n one v → Trim (at t) (at (trial_start n t v)) v (at t v (tab.last v))
  start_trim v h = rw (sym (worst_is v h)) (trial_trim s v)

  pub trial_keeps_table : (v : ℕ) → HasList n one v → passes n (aside_of n one) t v ≡ true → Table P (HasList n one) (at (trial n t v))
  unfolding trial
  trial_keeps_table v h ok =
      trial_table tab v h (start_trim v h) (one_end (start_sound s v) (trial_one s v))
      λ p has. on_list n (trial n t v) p (none_emptied_has n one (trial n t v) ok p (s₁.inside p _ (on_list n one p has).1).0 has)

  -- a super-stable matching that the trim spares survives the trial, so that the trial passes
  pub trial_passes : (v : ℕ) → HasList n one v → {M : ℕ → ℕ} → ((a b : ℕ) → 0 < P a b → 0 < P b a) → Stable P M
      → ((p : ℕ) → HasList n one p → 0 < P p (M p)) → On P (at (trial_start n t v)) M → passes n (aside_of n one) t v ≡ true
  unfolding trial
  trial_passes v h {M} bothP stable all on =
      let below : Below (at (trial_start n t v)) P = below_trans (trim_below (start_trim v h)) tab.below in
      let end : OneEnded n (trial_start n t v) (trial_work n t v) = trial_one s v in
      let still : On P (at (trial n t v)) M = run_survives (start_sound s v) end.run bothP stable below on in
      has_none_emptied n one (trial n t v) s.few_joints λ a l has. has_list (one_sound (start_sound s v) end) a (M a) (still a (all a has))
