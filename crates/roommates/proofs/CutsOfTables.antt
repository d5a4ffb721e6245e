-- A cut of a table that keeps a trial leaves a table; one of which both trials fail leaves no super-stable matching on the table.
use mathlib.Core.Path.{◌≡◌}
use mathlib.Core.Bool.{true, false}
use mathlib.Core.Logic.{◌≢◌}
use Prim.Native.Nat.{ℕ, ◌<◌}
use Rattle.sheet.specs.Square.{at}
use Rattle.base.proofs.Cases.{case}
use Rattle.base.proofs.Tests.{never}
use Rattle.roommates.specs.Lists.{Square, row, first_on}
use Rattle.roommates.specs.PhaseTwo.{trial_start, aside_of, kept, neither, cut_at, longer}
use Rattle.roommates.specs.Runs.{Cuts, uncut, cut_then}
use Rattle.roommates.proofs.Basics.{Bands, Stable, On}
use Rattle.roommates.proofs.Rows.{two_listed}
use Rattle.roommates.proofs.Tables.{Table, first_in}
use Rattle.roommates.proofs.TrialKeepsMatching.{one_trial_keeps}
use Rattle.roommates.proofs.Sound.{Sound, shrunk_sound}
use Rattle.roommates.proofs.CutsStrike.{CutTo, cut_to, longer_two, passes, cut_trial, cut_neither}
use Rattle.roommates.proofs.HasList.{HasList}
use Rattle.roommates.proofs.TrialsOfTables.{first_is, start_trim, trial_keeps_table, trial_passes}

module _ {n : ℕ} {P : Bands} {one t : Square} (s : Sound n t) (s₁ : Sound n one) (tab : Table P (HasList n one) (at t))
    (x : ℕ) (long : longer n t x ≡ true) where
  two : (i : ℕ) × (j : ℕ) × (i < n) × (j < n) × (i ≢ j) × (0 < at t x i) × (0 < at t x j)
  two = two_listed n (row t x) (longer_two n t x long)

  has : HasList n one x
  has = tab.listed x two.0 two.5

  firsts : first_on n (row t x) ≡ tab.first x
  firsts = first_is s s₁ tab x has

  first_has : HasList n one (first_on n (row t x))
  first_has = rw firsts (first_in tab x has)

  pub cut_keeps_table : {u : Square} → cut_at n (aside_of n one) t x ≡ kept u → Table P (HasList n one) (at u)
  cut_keeps_table {u} e = case (cut_trial n (aside_of n one) t x u e)
      (λ q. rw q.0 (trial_keeps_table s s₁ tab (first_on n (row t x)) first_has q.1))
      (λ q. rw q.0 (trial_keeps_table s s₁ tab x has q.1))

  pub cut_fails : cut_at n (aside_of n one) t x ≡ neither → {M : ℕ → ℕ} → ((a b : ℕ) → 0 < P a b → 0 < P b a) → Stable P M → On P (at t) M
      → ((p : ℕ) → HasList n one p → 0 < P p (M p)) → ⊥
  cut_fails e {M} bothP stable on all =
      let no : (passes n (aside_of n one) t (first_on n (row t x)) ≡ false) × (passes n (aside_of n one) t x ≡ false) = cut_neither n (aside_of n one) t x e in
      case (one_trial_keeps tab stable on all bothP x two.0 two.1 two.5 two.6 two.4)
      (λ k.
      let f = tab.first x in
      let spared : On P (at (trial_start n t f)) M = k (at (trial_start n t f)) (start_trim s s₁ tab f (first_in tab x has)) in
      never _ (trial_passes s s₁ tab f (first_in tab x has) bothP stable all spared) (rw firsts at no.0))
      (λ k. never _ (trial_passes s s₁ tab x has bothP stable all (k (at (trial_start n t x)) (start_trim s s₁ tab x has))) no.1)

pub cuts_keep_table : {n : ℕ} {P : Bands} {one t u : Square} → Sound n one → Sound n t → Cuts n (aside_of n one) t u → Table P (HasList n one) (at t)
    → Table P (HasList n one) (at u)
cuts_keep_table s₁ s uncut tab = tab
cuts_keep_table s₁ s (cut_then x l long e r) tab =
    let c : CutTo _ _ _ = cut_to s _ x l long e in
    cuts_keep_table s₁ (shrunk_sound s c.shrunk) r (cut_keeps_table s s₁ tab x long e)
