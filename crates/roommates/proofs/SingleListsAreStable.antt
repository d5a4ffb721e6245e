-- Lemma 3.8: a table whose lists have one entry each is a matching that no pair blocks.
use mathlib.Core.Path.{◌≡◌, ◌∙◌}
use mathlib.Core.Logic.{inl, inr, ⊎_map}
use Prim.Native.Nat.{ℕ, ◌<◌}
use Rattle.base.proofs.Cases.{case}
use Rattle.roommates.proofs.Basics.{Bands, Stable, Prefers}
use Rattle.roommates.proofs.Tables.{Table, first_in, prefers}

module _ {P T : Bands} {N : ℕ → Type 0} (t : Table P N T)
    (single : (p q r : ℕ) → 0 < T p q → 0 < T p r → q ≡ r)
    (M : ℕ → ℕ)
    (partner : (p : ℕ) → N p → M p ≡ t.first p)
    (paired : (p : ℕ) → 0 < P p (M p) → N p) where
  first_first : (p : ℕ) → N p → t.first (t.first p) ≡ p
  first_first p Np =
      let z = t.first p in
      single z _ _ (t.has_first z (first_in t p Np)) (t.below.both p z (t.has_first p Np))

  partner_prefers : (p q : ℕ) → N p × (T p (t.last p) < P p q) → Prefers P M p q
  partner_prefers p q w = prefers t M p q (rw (partner p w.0) (t.has_first p w.0)) w.1

  pub single_stable : Stable P M
  single_stable = record {
    back = λ p l. let Np = paired p l in rw (partner p Np) (partner _ (first_in t p Np) ∙ first_first p Np);
    unblocked = λ p q l. case (t.struck p q l)
        (λ lt. let Np = t.listed p q lt in inl (partner p Np ∙ single p _ _ (t.has_first p Np) lt))
        (λ w. inr (⊎_map (partner_prefers p q) (partner_prefers q p) w));
  }
