-- What one proposal of the definitions does to the square.
use mathlib.Core.Path.{◌≡◌, refl, sym, ◌∙◌}
use mathlib.Core.Logic.{◌⊎◌, inl, inr, ◌≢◌}
use mathlib.Core.List.{List}
use Prim.Native.Nat.{ℕ, suc, ◌≤◌, ◌<◌}
use native.Mathlib.Omega.{arith}
use borrow.Author.Tests.{le-leb, lt-leb}
use Rattle.sheet.specs.Square.{at}
use Rattle.base.proofs.Cases.{case, lt_ge, eq_ne}
use Rattle.roommates.specs.Lists.{Square, strike_worse, strike_band}
use Rattle.roommates.specs.PhaseOne.{standing_at, proposed}
use Rattle.roommates.proofs.Basics.{Bands}
use Rattle.roommates.proofs.Proposals.{Trim}
use Rattle.roommates.proofs.StrikesCompose.{was_there}
use Rattle.roommates.proofs.Waiting.{StandsAt, two_stand, one_stands}
use Rattle.roommates.proofs.Sound.{Sound, Shrunk, shrunk_trans, shrunk_sound}
use Rattle.roommates.proofs.Trims.{strike_worse_shrunk, strike_band_shrunk, strike_worse_trim, strike_band_trim}

-- a trim at q leaves alone what is not q's
trim_elsewhere : {T U : Bands} {q k : ℕ} → Trim T U q k → (a b : ℕ) → a ≢ q → b ≢ q → U a b ≡ T a b
trim_elsewhere {T} {U} m a b d e =
    case (lt_ge 0 (U a b))
    (λ h. m.same a b h)
    (λ h. case (lt_ge 0 (T a b))
    (λ l. case (m.gone a b l) (λ g. absurd (omega arith)) (λ g. absurd (case g (λ f. d f.0) (λ f. e f.0))))
    (λ l. omega arith))

-- the square after the first of a proposal's two strikes
abbrev pub worse_struck : ℕ → Square → ℕ → ℕ → Square
worse_struck n t p q = strike_worse n t q (at t q p)

abbrev pub band_struck : ℕ → Square → ℕ → ℕ → Square
band_struck n t p q = strike_band n (worse_struck n t p q) q (at t q p)

proposed_cases : (n : ℕ) (reach : List ℕ) (t : Square) (p q : ℕ)
    → ((standing_at n (worse_struck n t p q) reach q < 2) × (proposed n reach t p q ≡ worse_struck n t p q))
    ⊎ ((2 ≤ standing_at n (worse_struck n t p q) reach q) × (proposed n reach t p q ≡ band_struck n t p q))
unfolding proposed
proposed_cases n reach t p q =
    case (lt_ge (standing_at n (worse_struck n t p q) reach q) 2)
    (λ h. inl (h, rw (lt-leb 2 (standing_at n (worse_struck n t p q) reach q) h) refl))
    (λ h. inr (h, rw (le-leb 2 (standing_at n (worse_struck n t p q) reach q) h) refl))

-- another proposal that stands at q, no worse for q than p
abbrev pub Rival : Square → List ℕ → ℕ → ℕ → Type 0
Rival t reach p q = (s : ℕ) × (s ≢ p) × StandsAt t reach s q × (0 < at t q s) × (at t q s ≤ at t q p)

module _ {n : ℕ} {t : Square} (s : Sound n t) (reach : List ℕ) (p q : ℕ) where
  worse : Shrunk t (worse_struck n t p q)
  worse = strike_worse_shrunk s q (at t q p)

  worse_sound : Sound n (worse_struck n t p q)
  worse_sound = shrunk_sound s worse

  worse_trim : Trim (at t) (at (worse_struck n t p q)) q (suc (at t q p))
  worse_trim = strike_worse_trim s q (at t q p)

  band_trim : Trim (at t) (at (band_struck n t p q)) q (at t q p)
  band_trim = strike_band_trim worse_sound q (at t q p) worse_trim

  pub proposed_shrunk : Shrunk t (proposed n reach t p q)
  proposed_shrunk =
      case (proposed_cases n reach t p q)
      (λ e. rw e.1 worse)
      (λ e. rw e.1 (shrunk_trans worse (strike_band_shrunk worse_sound q (at t q p))))

  pub proposed_elsewhere : (a b : ℕ) → a ≢ q → b ≢ q → at (proposed n reach t p q) a b ≡ at t a b
  proposed_elsewhere a b d e =
      case (proposed_cases n reach t p q)
      (λ f. rw f.1 (trim_elsewhere worse_trim a b d e))
      (λ f. rw f.1 (trim_elsewhere band_trim a b d e))

  -- who stands after the first strike stood before, and is no worse than p
  rival : (i : ℕ) → i ≢ p → StandsAt (worse_struck n t p q) reach i q → Rival t reach p q
  rival i d h =
      let e : at (worse_struck n t p q) i q ≡ at t i q = worse.below.kept i q (omega arith) in
      let b : 0 < at (worse_struck n t p q) q i = worse.below.both i q (omega arith) in
      (i, d, (h.0, omega arith), was_there worse.below q i b, omega (arith, worse_trim.limit i b))

  -- p, which stands at q, is not struck by the first strike
  still : StandsAt t reach p q → StandsAt (worse_struck n t p q) reach p q
  still h =
      let m : 0 < at t p q = omega arith in
      case (worse_trim.gone p q m)
      (λ l. (h.0, worse.below.kept p q l ∙ h.1))
      (λ g. absurd (case g
      (λ e. let z : at t q q ≡ 0 = s.not_itself q in let y : at t p q ≡ 0 = rw e.0 z in omega arith)
      (λ e. let y : suc (at t q p) ≤ at t q p = e.1 in omega arith)))

  pub proposed_strikes : p < n → StandsAt t reach p q
      → (Trim (at t) (at (proposed n reach t p q)) q (suc (at t q p)) × ((i : ℕ) → StandsAt t reach i q → 0 < at (proposed n reach t p q) i q → i ≡ p))
      ⊎ (Trim (at t) (at (proposed n reach t p q)) q (at t q p) × Rival t reach p q)
  proposed_strikes l h =
      case (proposed_cases n reach t p q)
      (λ e. inl (rw e.1 (
        worse_trim,
        λ i g m. one_stands n (worse_struck n t p q) reach q e.0 i p (worse_sound.inside i q m).0 l (g.0, worse.below.kept i q m ∙ g.1) (still h),
      )))
      (λ e. inr (
        rw e.1 band_trim,
        let two : (i : ℕ) × (j : ℕ) × (i ≢ j) × StandsAt (worse_struck n t p q) reach i q × StandsAt (worse_struck n t p q) reach j q
            = two_stand n (worse_struck n t p q) reach q e.0 in
            case (eq_ne two.0 p)
            (λ f. rival two.1 (λ g. two.2 (f ∙ sym g)) two.4)
            (λ f. rival two.0 f two.3),
      ))
