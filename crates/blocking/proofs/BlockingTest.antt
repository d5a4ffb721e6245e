-- The test for a blocking pair means the plain statement.
use mathlib.Core.Path.{◌≡◌}
use mathlib.Core.Bool.{true, not}
use mathlib.Core.Logic.{inl, inr}
use mathlib.Core.List.{List}
use Prim.Native.Nat.{ℕ}
use lib.Dec.{eqb, ltb}
use borrow.Author.Tests.{eqb-true, eqb-false, ltb-true, leb-true, eq-eqb, ne_eqb, lt-ltb, le-leb, not-true}
use Rattle.sheet.specs.Square.{at}
use Rattle.matching.specs.Matchings.{partner}
use Rattle.blocking.specs.Blocking.{welcomes, is_apart, blocks}
use Rattle.blocking.specs.Plain.{Welcomes}
use Rattle.blocking.specs.Claims.{BlocksMeans}
use Rattle.base.proofs.Cases.{case}
use Rattle.base.proofs.Tests.{and_true, or_true, or_right}

module _ (t : List (List ℕ)) (m : List ℕ) where
  welcome : (a b : ℕ) → welcomes t m a b ≡ true → Welcomes (at t) (partner m) a b
  unfolding welcomes
  welcome a b h = case (or_true _ _ h) (λ l. inl (eqb-true _ _ l)) (λ r. inr (leb-true _ _ r))

  welcome_passes : (a b : ℕ) → Welcomes (at t) (partner m) a b → welcomes t m a b ≡ true
  unfolding welcomes
  welcome_passes a b h = case h
      (λ l. rw (eq-eqb (partner m a) 255 l))
      (λ r. or_right (eqb (partner m a) 255) _ (le-leb _ _ r))

-- blocks passes exactly the pairs that block
pub blocks_means : BlocksMeans
unfolding blocks is_apart
blocks_means t m a b = (
  λ h.
      let h₀ : (is_apart t m a b ≡ true) × (_ ≡ true) = and_true _ _ h in
      let w : (welcomes t m a b ≡ true) × (welcomes t m b a ≡ true) = and_true _ _ h₀.1 in
      let h₁ : (ltb 0 (at t a b) ≡ true) × (_ ≡ true) = and_true _ _ h₀.0 in
      let h₂ : (ltb 0 (at t b a) ≡ true) × (not (eqb (partner m a) b) ≡ true) = and_true _ _ h₁.1 in
      record {
        lists = ltb-true _ _ h₁.0;
        listed = ltb-true _ _ h₂.0;
        apart = eqb-false _ _ (not-true _ h₂.1);
        wants = welcome t m a b w.0;
        wanted = welcome t m b a w.1;
      },
  λ r.
      rw (
        lt-ltb _ _ r.lists,
        lt-ltb _ _ r.listed,
        ne_eqb _ _ r.apart,
        welcome_passes t m a b r.wants,
        welcome_passes t m b a r.wanted,
      ),
)
