-- The strikes of the definitions are trims.
use mathlib.Core.Path.{◌≡◌, refl, sym, ◌∙◌, ap}
use mathlib.Core.Bool.{Bool, true, false}
use mathlib.Core.Logic.{◌⊎◌, inl, inr, ◌≢◌}
use Prim.Native.Nat.{ℕ, zero, suc, ◌≤◌, ◌<◌}
use native.Mathlib.Omega.{arith}
use lib.Dec.{ltb, eqb}
use borrow.Author.Tests.{ltb-true, ltb-false, eqb-true, eqb-false}
use Rattle.sheet.specs.Square.{at}
use Rattle.base.proofs.Cases.{case, both_ways, below_suc}
use Rattle.roommates.specs.Lists.{Square, row, struck, worst_band, strike_if, strike_worse, strike_band}
use Rattle.roommates.proofs.Basics.{Bands}
use Rattle.roommates.proofs.Proposals.{Trim}
use Rattle.roommates.proofs.StrikesCompose.{was_there}
use Rattle.roommates.proofs.Strikes.{struck_pair, struck_other}
use Rattle.roommates.proofs.Rows.{worst_most}
use Rattle.roommates.proofs.Sound.{Sound, Shrunk, shrunk_refl, shrunk_trans, shrunk_sound, struck_shrunk}

-- u is t without the pairs of q with a joint below i whose band on q's list passes the test
pub record StruckIf (test : ℕ → Bool) (i : ℕ) (t u : Square) (q : ℕ) : Type 0 where
  pub shrunk : Shrunk t u
  pub limit : (r : ℕ) → r < i → 0 < at u q r → test (at t q r) ≡ false
  pub gone : (a b : ℕ) → 0 < at t a b
      → (0 < at u a b) ⊎ (((a ≡ q) × (test (at t a b) ≡ true)) ⊎ ((b ≡ q) × (test (at t b a) ≡ true)))

pub strike_if_lem : {n : ℕ} {t : Square} → Sound n t → (test : ℕ → Bool) (i q : ℕ) → StruckIf test i t (strike_if test i t q) q
unfolding strike_if
strike_if_lem s test zero q = record { shrunk = shrunk_refl s; limit = λ r h p. absurd (omega arith); gone = λ a b h. inl h }
strike_if_lem {n} {t} s test (suc i) q =
    let u = strike_if test i t q in
    let m : StruckIf test i t u q = strike_if_lem s test i q in
    let v = struck u q i in
    let last : Shrunk u v = struck_shrunk (shrunk_sound s m.shrunk) q i in
    case (both_ways (test (at u q i)))
    (λ b. rw b record {
      shrunk = shrunk_trans m.shrunk last;
      limit = λ r h p.
          case (below_suc h)
          (λ e. let z : at v q r ≡ 0 = struck_pair u q i q r (inl (refl, e)) in absurd (omega arith))
          (λ e. m.limit r e (was_there last.below q r p));
      gone = λ a c h.
          case (m.gone a c h)
          (λ l. case (struck_other u q i a c)
          (λ o. inr (case o
          (λ e. inl (e.0, ap test (sym (m.shrunk.below.kept a c l)) ∙ rw (e.0, e.1) b))
          (λ e. inr (e.1, ap test (sym (m.shrunk.below.kept c a (m.shrunk.below.both a c l))) ∙ rw (e.0, e.1) b))))
          (λ e. inl (omega arith)))
          inr;
    })
    (λ b. rw b record {
      shrunk = m.shrunk;
      limit = λ r h p.
          case (below_suc h)
          (λ e. ap test (sym (m.shrunk.below.kept q r p)) ∙ rw e b)
          (λ e. m.limit r e p);
      gone = m.gone;
    })

module _ {n : ℕ} {t : Square} (s : Sound n t) (q k : ℕ) where
  worse : StruckIf (λ b. ltb k b) n t (strike_worse n t q k) q
  worse = strike_if_lem s (λ b. ltb k b) n q

  band : StruckIf (λ b. eqb b k) n t (strike_band n t q k) q
  band = strike_if_lem s (λ b. eqb b k) n q

  pub strike_worse_shrunk : Shrunk t (strike_worse n t q k)
  strike_worse_shrunk = worse.shrunk

  pub strike_band_shrunk : Shrunk t (strike_band n t q k)
  strike_band_shrunk = band.shrunk

  pub strike_worse_trim : Trim (at t) (at (strike_worse n t q k)) q (suc k)
  strike_worse_trim = record {
    same = worse.shrunk.below.kept;
    both = worse.shrunk.below.both;
    limit = λ r p.
        let l : at t q r ≤ k = ltb-false k (at t q r) (worse.limit r (s.inside q r (was_there strike_worse_shrunk.below q r p)).1 p) in
        omega arith;
    gone = λ a b h.
        case (worse.gone a b h)
        inl
        (λ g. inr (case g
        (λ e. inl (e.0, ltb-true k (at t a b) e.1))
        (λ e. inr (e.0, ltb-true k (at t b a) e.1))));
  }

  -- .. where nothing of q's list is worse than band k
  pub strike_band_trim : {T : Bands} → Trim T (at t) q (suc k) → Trim T (at (strike_band n t q k)) q k
  strike_band_trim {T} m = record {
    same = λ a b h. band.shrunk.below.kept a b h ∙ m.same a b (was_there strike_band_shrunk.below a b h);
    both = band.shrunk.below.both;
    limit = λ r p.
        let w : 0 < at t q r = was_there strike_band_shrunk.below q r p in
        let d : at t q r ≢ k = eqb-false (at t q r) k (band.limit r (s.inside q r w).1 p) in
        omega (arith, m.limit r w, m.same q r w);
    gone = λ a b h.
        case (m.gone a b h)
        (λ l. case (band.gone a b l)
        inl
        (λ g. inr (case g
        (λ e. let f : at t a b ≡ k = eqb-true (at t a b) k e.1 in inl (e.0, omega (arith, m.same a b l)))
        (λ e. let f : at t b a ≡ k = eqb-true (at t b a) k e.1 in inr (e.0, omega (arith, m.same b a (m.both a b l)))))))
        (λ g. inr (case g
        (λ e. inl (e.0, omega arith))
        (λ e. inr (e.0, omega arith))));
  }

-- the first strike of a trial at v
pub trial_trim : {n : ℕ} {t : Square} → Sound n t → (v : ℕ) → Trim (at t) (at (strike_band n t v (worst_band n (row t v)))) v (worst_band n (row t v))
trial_trim {n} {t} s v =
    strike_band_trim s v (worst_band n (row t v)) record {
      same = λ a b h. refl;
      both = s.both;
      limit = λ r h. let m : at t v r ≤ worst_band n (row t v) = worst_most n (row t v) r (s.inside v r h).1 in omega arith;
      gone = λ a b h. inl h;
    }
