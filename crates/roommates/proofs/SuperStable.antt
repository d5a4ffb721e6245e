-- The theory's matchings that no pair blocks are the super-stable matchings of the crate blocking: 255 is on nobody's list.
use mathlib.Core.Path.{◌≡◌}
use mathlib.Core.Bool.{true}
use mathlib.Core.Logic.{◌⊎◌, ⊎_map}
use mathlib.Core.List.{List}
use Prim.Native.Nat.{ℕ, ◌≤◌, ◌<◌}
use native.Mathlib.Omega.{arith}
use lib.ListN.{length}
use Rattle.sheet.specs.Square.{at, SquarePromise}
use Rattle.base.proofs.Cases.{case}
use Rattle.matching.specs.Matchings.{partner}
use Rattle.blocking.specs.Blocking.{is_super_stable}
use Rattle.blocking.specs.Plain.{SuperStable}
use Rattle.blocking.specs.Plain as Plain
use Rattle.blocking.proofs.SuperStableTest.{is_super_stable_means}
use Rattle.roommates.specs.Lists.{Square}
use Rattle.roommates.proofs.Basics.{Stable, Prefers}

module _ {n : ℕ} {t : Square} (s : SquarePromise n t) (m : List ℕ) where
  -- 255 is no joint
  no_joint : (a : ℕ) → 0 < at t a (partner m a) → partner m a ≡ 255 → ⊥
  no_joint a h e = let l : (a < n) × (partner m a < n) = s.inside a (partner m a) h in let few : n ≤ 128 = s.few_joints in omega arith

  prefers : SuperStable n (at t) (partner m) → (a b : ℕ) → a < n → Plain.Prefers n (at t) (partner m) a b → Prefers (at t) (partner m) a b
  prefers super a b l h =
      let few : n ≤ 128 = s.few_joints in
      let k : (partner m a < n) × (at t a (partner m a) < at t a b) = h in
      case (super.matching.placed a l) (λ e. absurd (omega arith)) (λ p. (p.listed, k.1))

  pub super_stable : is_super_stable n t m ≡ true → Stable (at t) (partner m)
  super_stable h =
      let super : SuperStable n (at t) (partner m) = ((is_super_stable_means n t m s).0 h).1 in
      record {
        back = λ p l. case (super.matching.placed p (s.inside p (partner m p) l).0) (λ e. absurd (no_joint p l e)) (λ k. k.back);
        unblocked = λ p q l.
            let i : (p < n) × (q < n) = s.inside p q l in
            ⊎_map (λ e. e) (⊎_map (prefers super p q i.0) (prefers super q p i.1))
            (super.unblocked p q i.0 i.1 l (s.mutual_listing p q l));
      }

  pub super_placed : is_super_stable n t m ≡ true → (a : ℕ) → a < n → (partner m a ≡ 255) ⊎ (0 < at t a (partner m a))
  super_placed h a l = ⊎_map (λ e. e) (λ p. p.listed) (((is_super_stable_means n t m s).0 h).1.matching.placed a l)

  plainly : (a b : ℕ) → Prefers (at t) (partner m) a b → Plain.Prefers n (at t) (partner m) a b
  plainly a b h = ((s.inside a (partner m a) h.0).1, h.1)

  -- .. the other way, where each joint is unpaired or listed with its partner
  pub stable_super : length m ≡ n → ((a : ℕ) → a < n → (partner m a ≡ 255) ⊎ (0 < at t a (partner m a))) → Stable (at t) (partner m)
      → is_super_stable n t m ≡ true
  stable_super long placed stable = (is_super_stable_means n t m s).1 (
    long,
    record {
      matching = record {
        placed = λ a l. ⊎_map (λ e. e)
            (λ k. record { with_joint = (s.inside a (partner m a) k).1; listed = k; back = stable.back a k })
            (placed a l);
      };
      unblocked = λ a b la lb h k. ⊎_map (λ e. e) (⊎_map (plainly a b) (plainly b a)) (stable.unblocked a b h);
    },
  )
