-- A trial, and so a cut that keeps one, strikes at least one pair.
use mathlib.Core.Path.{◌≡◌, refl}
use mathlib.Core.Bool.{Bool, true, false, cond}
use mathlib.Core.Logic.{◌⊎◌, inl, inr, ◌≢◌}
use mathlib.Core.List.{List}
use Prim.Native.Nat.{ℕ, ◌+◌, ◌≤◌, ◌<◌}
use native.Mathlib.Omega.{arith}
use lib.ListN.{get_or}
use borrow.Author.Tests.{leb-true}
use Rattle.sheet.specs.Square.{at}
use Rattle.base.proofs.Cases.{case, lt_ge}
use Rattle.roommates.specs.Lists.{Square, row, list_length, worst_band, first_on}
use Rattle.roommates.specs.PhaseOne.{fresh, fuel}
use Rattle.roommates.specs.PhaseTwo.{trial_start, trial, none_emptied, kept, neither, cut_at, longer}
use Rattle.roommates.specs.Runs.{Cuts, uncut, cut_then}
use Rattle.roommates.specs.Left.{entry_count}
use Rattle.roommates.proofs.Rows.{some_listed, listed_some, worst_most, worst_attained}
use Rattle.roommates.proofs.FirstOn.{first_best}
use Rattle.roommates.proofs.Sound.{Sound, Shrunk, shrunk_refl, shrunk_trans, shrunk_sound}
use Rattle.roommates.proofs.Trims.{strike_band_shrunk, trial_trim}
use Rattle.roommates.proofs.States.{fresh_steady}
use Rattle.roommates.proofs.Running.{run_shrunk, runs_out}
use Rattle.roommates.proofs.EntryCounts.{entries_struck}

module _ {n : ℕ} {t : Square} (s : Sound n t) (v : ℕ) where
  pub start_sound : Sound n (trial_start n t v)
  start_sound = shrunk_sound s (strike_band_shrunk s v (worst_band n (row t v)))

  pub trial_after : Shrunk (trial_start n t v) (trial n t v)
  unfolding trial
  trial_after = run_shrunk (runs_out (fuel n) n (fresh (trial_start n t v))).run (fresh_steady start_sound)

  pub trial_shrunk : Shrunk t (trial n t v)
  trial_shrunk = shrunk_trans (strike_band_shrunk s v (worst_band n (row t v))) trial_after

  -- the pairs of v's worst band go, one at least
  pub trial_strikes : v < n → 0 < list_length n (row t v) → entry_count n (trial n t v) + 2 ≤ entry_count n t
  trial_strikes lv some =
      let l : List ℕ = row t v in
      let u : Square = trial n t v in
      let i : (i : ℕ) × (i < n) × (0 < get_or l i 0) = some_listed n l some in
      let pos : 0 < worst_band n l = let m : get_or l i.0 0 ≤ worst_band n l = worst_most n l i.0 i.1 in omega (arith, i.2) in
      let j : (j : ℕ) × (j < n) × (get_or l j 0 ≡ worst_band n l) = worst_attained n l pos in
      let b : ℕ = j.0 in
      let there : 0 < at t v b = omega (arith, j.2) in
      let gone : at u v b ≡ 0 =
      case (lt_ge 0 (at u v b))
      (λ h.
      let h' : 0 < at (trial_start n t v) v b = omega (arith, trial_after.below.kept v b h) in
      let less : at t v b < worst_band n l = (trial_trim s v).limit b h' in
      absurd (omega (arith, j.2)))
      (λ z. omega arith) in
      let back : at u b v ≡ 0 =
      case (lt_ge 0 (at u b v))
      (λ h. let h' : 0 < at u v b = trial_shrunk.below.both b v h in absurd (omega arith))
      (λ z. omega arith) in
      let apart : v ≢ b = λ e. (let z : at t v b ≡ 0 = rw (← e) (s.not_itself v) in omega arith) in
      entries_struck n t u v b lv j.1 apart trial_shrunk.below there (s.both v b there) gone back

pub longer_two : (n : ℕ) (t : Square) (x : ℕ) → longer n t x ≡ true → 2 ≤ list_length n (row t x)
longer_two n t x h = leb-true 2 (list_length n (row t x)) h

-- A cut of which neither trial passed the test; or it keeps one that did.
choose_neither : (b c : Bool) (f g : Square) → cond b (kept f) (cond c (kept g) neither) ≡ neither → (b ≡ false) × (c ≡ false)
choose_neither true c f g e = absurd (let z : ◌≡◌ {A = ℕ} 0 1 = cc in omega arith)
choose_neither false true f g e = absurd (let z : ◌≡◌ {A = ℕ} 0 1 = cc in omega arith)
choose_neither false false f g e = (refl, refl)

choose : (b c : Bool) (f g u : Square) → cond b (kept f) (cond c (kept g) neither) ≡ kept u → ((u ≡ f) × (b ≡ true)) ⊎ ((u ≡ g) × (c ≡ true))
choose true c f g u e = inl (cc, refl)
choose false true f g u e = inr (cc, refl)
choose false false f g u e = absurd (let z : ◌≡◌ {A = ℕ} 0 1 = cc in omega arith)

-- the trial at v left no list empty but those set aside
abbrev pub passes : ℕ → List ℕ → Square → ℕ → Bool
passes n aside t v = none_emptied n aside (trial n t v)

pub cut_neither : (n : ℕ) (aside : List ℕ) (t : Square) (x : ℕ) → cut_at n aside t x ≡ neither
    → (passes n aside t (first_on n (row t x)) ≡ false) × (passes n aside t x ≡ false)
unfolding cut_at
cut_neither n aside t x e = choose_neither (passes n aside t (first_on n (row t x))) (passes n aside t x) _ _ e

pub cut_trial : (n : ℕ) (aside : List ℕ) (t : Square) (x : ℕ) (u : Square) → cut_at n aside t x ≡ kept u
    → ((u ≡ trial n t (first_on n (row t x))) × (passes n aside t (first_on n (row t x)) ≡ true)) ⊎ ((u ≡ trial n t x) × (passes n aside t x ≡ true))
unfolding cut_at
cut_trial n aside t x u e = choose (passes n aside t (first_on n (row t x))) (passes n aside t x) _ _ u e

-- What a kept cut leaves.
pub record CutTo (n : ℕ) (t u : Square) : Type 0 where
  pub shrunk : Shrunk t u
  pub less : entry_count n u + 2 ≤ entry_count n t

pub trial_cut : {n : ℕ} {t : Square} → Sound n t → (v : ℕ) → v < n → 0 < list_length n (row t v) → CutTo n t (trial n t v)
trial_cut s v lv some = record { shrunk = trial_shrunk s v; less = trial_strikes s v lv some }

pub cut_to : {n : ℕ} {t u : Square} → Sound n t → (aside : List ℕ) (x : ℕ) → x < n → longer n t x ≡ true → cut_at n aside t x ≡ kept u → CutTo n t u
cut_to {n} {t} {u} s aside x lx long e =
    let two : 2 ≤ list_length n (row t x) = longer_two n t x long in
    let some : 0 < list_length n (row t x) = omega arith in
    let z : ℕ = first_on n (row t x) in
    let j : (j : ℕ) × (j < n) × (0 < at t x j) = some_listed n (row t x) some in
    let f : (z < n) × (0 < at t x z) × (at t x z ≤ at t x j.0) = first_best n (row t x) j.0 j.1 j.2 in
    let back : 0 < at t z x = s.both x z f.1 in
    case (cut_trial n aside t x u e)
    (λ q. rw q.0 (trial_cut s z f.0 (listed_some n (row t z) x lx back)))
    (λ q. rw q.0 (trial_cut s x lx some))

pub cuts_shrunk : {n : ℕ} {aside : List ℕ} {t u : Square} → Sound n t → Cuts n aside t u → Shrunk t u
cuts_shrunk s uncut = shrunk_refl s
cuts_shrunk s (cut_then x lx long e r) =
    let c : CutTo _ _ _ = cut_to s _ x lx long e in
    shrunk_trans c.shrunk (cuts_shrunk (shrunk_sound s c.shrunk) r)
