-- The counting argument of Lemma 3.7: a matching that no pair blocks against a table. Some joints have only strictly better ones on
-- their list than their partner, some others have lost theirs; first and last take the ones to the others.
use mathlib.Core.Path.{◌≡◌, sym, ◌∙◌, ap}
use mathlib.Core.Logic.{◌⊎◌, inl, inr}
use Prim.Native.Nat.{ℕ, ◌≤◌, ◌<◌}
use native.Mathlib.Omega.{arith}
use Rattle.base.proofs.Cases.{case, lt_ge}
use Rattle.roommates.proofs.Basics.{Bands, Stable}
use Rattle.roommates.proofs.Pigeonhole.{pigeonhole}
use Rattle.roommates.proofs.Tables.{Table}

-- everything on p's list is strictly better than its partner
abbrev pub Over : {P T : Bands} {N : ℕ → Type 0} → Table P N T → (ℕ → ℕ) → ℕ → Type 0
Over {P} {T} t M p = T p (t.last p) < P p (M p)

-- not so, but the pair is struck
abbrev pub Lost : {P T : Bands} {N : ℕ → Type 0} → Table P N T → (ℕ → ℕ) → ℕ → Type 0
Lost {P} {T} t M p = (P p (M p) ≤ T p (t.last p)) × (T p (M p) ≡ 0) × (0 < P p (M p))

module _ {P T : Bands} {N : ℕ → Type 0} {M : ℕ → ℕ} (t : Table P N T) (st : Stable P M)
    (all : (p : ℕ) → N p → 0 < P p (M p)) (only : (p : ℕ) → 0 < P p (M p) → N p) where
  pub status : (p : ℕ) → N p → Over t M p ⊎ (Lost t M p ⊎ (0 < T p (M p)))
  status p Np =
      let l = all p Np in
      case (lt_ge (T p (t.last p)) (P p (M p)))
      inl
      (λ w. inr (case (lt_ge 0 (T p (M p)))
      inr
      (λ k. inl (w, omega arith, l))))

  pub over_in : (p : ℕ) → Over t M p → N p
  over_in p o = only p (omega arith)

  pub over_last : (p : ℕ) → Over t M p → Lost t M (t.last p)
  over_last p o =
      let z = t.last p in
      let Np = over_in p o in
      let l : 0 < T p z = t.has_last p Np in
      let pz : T p z ≡ P p z = t.below.kept p z l in
      let lz : 0 < T z p = t.below.both p z l in
      let zp : T z p ≡ P z p = t.below.kept z p lz in
      let wz = t.worst z p lz in
      case (st.unblocked p z (omega arith))
      (λ e. let h : P p (M p) ≡ P p z = ap (P p) e in absurd (omega arith))
      (λ w. case w
      (λ a. let a1 = a.1 in absurd (omega arith))
      (λ a. let a0 = a.0 in
      let a1 = a.1 in (
        omega arith,
        (case (lt_ge 0 (T z (M z)))
            (λ k. let kz = t.below.kept z (M z) k in
            case (t.best z (M z) k)
            (λ e. let h : P z (M z) ≡ P z p = ap (P z) (e ∙ t.first_last p Np) in absurd (omega arith))
            (λ b. let c : T z p < T z (M z) = rw (t.first_last p Np) at b in absurd (omega arith)))
            (λ k. omega arith)),
        a0,
      )))

  lost_partner : (p : ℕ) → Lost t M p → Over t M (M p)
  lost_partner p w =
      let w0 = w.0 in
      let w1 = w.1 in
      case (t.struck p (M p) w.2)
      (λ l. absurd (omega arith))
      (λ s. case s
      (λ a. let a1 = a.1 in absurd (omega arith))
      (λ a. rw (st.back p w.2) a.1))

  lost_one : (a b : ℕ) → Lost t M a → Lost t M b → M a ≡ M b → a ≡ b
  lost_one a b wa wb e = sym (st.back a wa.2) ∙ (ap M e ∙ st.back b wb.2)

  over_one : (a b : ℕ) → Over t M a → Over t M b → t.last a ≡ t.last b → a ≡ b
  over_one a b oa ob e = sym (t.first_last a (over_in a oa)) ∙ (ap t.first e ∙ t.first_last b (over_in b ob))

  module _ (n : ℕ) (inside : (a b : ℕ) → 0 < P a b → a < n) where
    -- last goes from those over their partner to those who lost it, and M back, each one to one: so last is onto
    pub lost_first : (p : ℕ) → Lost t M p → Over t M (t.first p)
    lost_first p w =
        let s = pigeonhole n (Over t M) (λ q. M (t.last q))
        (λ a o. inside a _ (all a (over_in a o)))
        (λ a o. lost_partner (t.last a) (over_last a o))
        (λ a b oa ob e. over_one a b oa ob (lost_one _ _ (over_last a oa) (over_last b ob) e))
        (M p) (lost_partner p w) in
        let e : t.last s.0 ≡ p = lost_one _ _ (over_last s.0 s.1.0) w s.1.1 in
        let h : t.first p ≡ s.0 = ap t.first (sym e) ∙ t.first_last s.0 (over_in s.0 s.1.0) in
        rw h s.1.0
