-- Lemma 3.6: a super-stable matching on the lists survives the strikes that begin one trial or the other.
use mathlib.Core.Path.{◌≡◌, sym, ◌∙◌}
use mathlib.Core.Logic.{◌⊎◌, inl, inr, ◌≢◌}
use Prim.Native.Nat.{ℕ, ◌<◌}
use native.Mathlib.Omega.{arith}
use Rattle.base.proofs.Cases.{case, eq_ne}
use Rattle.roommates.proofs.Basics.{Bands, Stable, On}
use Rattle.roommates.proofs.Proposals.{Trim}
use Rattle.roommates.proofs.OnTrim.{On-trim}
use Rattle.roommates.proofs.Tables.{Table, first_in}

module _ {P T : Bands} {N : ℕ → Type 0} {M : ℕ → ℕ} (t : Table P N T) (st : Stable P M) (on : On P T M)
    (all : (p : ℕ) → N p → 0 < P p (M p)) (bothP : (a b : ℕ) → 0 < P a b → 0 < P b a) where
  -- x's first prefers its partner to x, unless x is the partner: x is its worst
  first_better : (x : ℕ) → N x → M x ≢ t.first x → T (t.first x) (M (t.first x)) < T (t.first x) (t.last (t.first x))
  first_better x Nx ne =
      let z = t.first x in
      let l : 0 < T x z = t.has_first x Nx in
      let xz : T x z ≡ P x z = t.below.kept x z l in
      let zx : T z x ≡ P z x = t.below.kept z x (t.below.both x z l) in
      let lx = on x (all x Nx) in
      let kx = t.below.kept x _ lx in
      let lz = on z (all z (first_in t x Nx)) in
      let kz = t.below.kept z _ lz in
      rw (t.last_first x Nx) (case (st.unblocked x z (rw (← xz) l))
      (λ e. absurd (ne e))
      (λ w. case w
      (λ a. case (t.best x (M x) lx)
      (λ e. absurd (ne e))
      (λ b. let a1 = a.1 in absurd (omega arith)))
      (λ a. let a1 = a.1 in omega arith)))

  -- with two on its list, x's first is in a better band than its worst
  first_last_apart : (x q r : ℕ) → 0 < T x q → 0 < T x r → q ≢ r → T x (t.first x) < T x (t.last x)
  first_last_apart x q r lq lr ne =
      let wq = t.worst x q lq in
      let wr = t.worst x r lr in
      case (t.best x q lq)
      (λ eq. case (t.best x r lr)
      (λ er. absurd (ne (eq ∙ sym er)))
      (λ b. omega arith))
      (λ b. omega arith)

  pub one_trial_keeps : (x q r : ℕ) → 0 < T x q → 0 < T x r → q ≢ r
      → ((T₁ : Bands) → Trim T T₁ (t.first x) (T (t.first x) (t.last (t.first x))) → On P T₁ M)
      ⊎ ((T₂ : Bands) → Trim T T₂ x (T x (t.last x)) → On P T₂ M)
  one_trial_keeps x q r lq lr ne =
      case (eq_ne (M x) (t.first x))
      (λ e. inr (λ T₂ s. On-trim bothP st on s (λ _. rw e (first_last_apart x q r lq lr ne))))
      (λ d. inl (λ T₁ s. On-trim bothP st on s (λ _. first_better x (t.listed x q lq) d)))
