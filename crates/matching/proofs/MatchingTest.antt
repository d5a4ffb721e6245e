-- The test for a matching means the plain statement.
use mathlib.Core.Path.{◌≡◌}
use mathlib.Core.Bool.{true}
use mathlib.Core.Logic.{◌⊎◌, ◌≢◌, inl, inr}
use mathlib.Core.List.{List}
use Prim.Native.Nat.{ℕ, ◌<◌}
use lib.Dec.{eqb, ltb}
use lib.ListN.{length}
use borrow.Author.Tests.{eqb-true, eqb-false, ltb-true, eq-eqb, lt-ltb}
use Rattle.sheet.specs.Square.{at}
use Rattle.std.specs.Prelude.{Some, None}
use native.Mathlib.Omega.{arith}
use Rattle.matching.specs.Matchings.{partner, partner_of, is_alone, is_paired, is_placed, is_matching}
use Rattle.matching.specs.Plain.{Paired}
use Rattle.matching.specs.Claims.{IsMatchingMeans}
use Rattle.base.specs.Below.{all_below}
use Rattle.base.proofs.Cases.{case, both_ways}
use Rattle.base.proofs.AllBelow.{all_true, all_pass}
use Rattle.base.proofs.Tests.{and_true, or_true, or_right}

module _ (n : ℕ) (t : List (List ℕ)) (m : List ℕ) where
  paired : (a : ℕ) → is_paired n t m a (partner m a) ≡ true → Paired n (at t) (partner m) a
  unfolding is_paired
  paired a h =
      let p = partner m a in
      let h₀ : (ltb p n ≡ true) × (_ ≡ true) = and_true _ _ h in
      let h₁ : (eqb (partner m p) a ≡ true) × (ltb 0 (at t a p) ≡ true) = and_true _ _ h₀.1 in
      record { with_joint = ltb-true _ _ h₀.0; listed = ltb-true _ _ h₁.1; back = eqb-true _ _ h₁.0 }

  placed : (a : ℕ) → is_placed n t m a ≡ true → (partner m a ≡ 255) ⊎ Paired n (at t) (partner m) a
  unfolding is_placed
  placed a h = case (or_true _ _ h) (λ l. inl (eqb-true _ _ l)) (λ r. inr (paired a r))

  placed_passes : (a : ℕ) → (partner m a ≡ 255) ⊎ Paired n (at t) (partner m) a → is_placed n t m a ≡ true
  unfolding is_placed is_paired
  placed_passes a h = case h
      (λ l. rw (eq-eqb (partner m a) 255 l))
      (λ r. or_right (eqb (partner m a) 255) _ (rw (lt-ltb _ _ r.with_joint, eq-eqb _ _ r.back, lt-ltb _ _ r.listed)))

-- is_matching passes exactly the pairings of n bytes that are matchings
pub is_matching_means : IsMatchingMeans
unfolding is_matching
is_matching_means n t m = (
  λ h.
      let both : (eqb (length m) n ≡ true) × (all_below n (is_placed n t m) ≡ true) = and_true _ _ h in
      (eqb-true _ _ both.0, record { placed = λ a l. placed n t m a (all_true n _ both.1 a l) }),
  λ h. rw (eq-eqb _ _ h.0) (all_pass n _ (λ a l. placed_passes n t m a (h.1.placed a l))),
)

-- the partner of a paired joint
pub partner_some : (m : List ℕ) (a : ℕ) {p : ℕ} → Some p ≡ partner_of m a → (p ≡ partner m a) × (partner m a ≢ 255)
partner_some m a e = case (both_ways (is_alone m a))
    (λ t. let no : _ = rw t at e in cc)
    (λ f. let same : _ = rw f at e in (cc, eqb-false _ _ f))

pub partner_none : (m : List ℕ) (a : ℕ) → None ≡ partner_of m a → partner m a ≡ 255
partner_none m a e = case (both_ways (is_alone m a))
    (λ t. eqb-true _ _ t)
    (λ f. let no : _ = rw f at e in cc)

-- what the functions that are handed a matching need of it
module _ (n : ℕ) (t : List (List ℕ)) (m : List ℕ) (matching : is_matching n t m ≡ true) where
  pub as_many : length m ≡ n
  as_many = ((is_matching_means n t m).0 matching).0

  pub partner_joint : (a : ℕ) → a < n → (partner m a ≡ 255 → ⊥) → partner m a < n
  partner_joint a l paired = case (((is_matching_means n t m).0 matching).1.placed a l)
      (λ u. absurd (paired u))
      (λ p. p.with_joint)

  pub joint_some : (a : ℕ) {p : ℕ} → a < n → Some p ≡ partner_of m a → p < n
  joint_some a l e = let s = partner_some m a e in let low : partner m a < n = partner_joint a l s.1 in omega (arith, s.0)
