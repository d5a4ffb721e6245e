-- Laws of the tests, one for each way that the code takes, and what they mean.
use mathlib.Core.Path.{◌≡◌, refl, sym, ◌∙◌}
use mathlib.Core.Bool.{true, false, ◌||◌, or-true, or-false}
use mathlib.Core.List.{List}
use mathlib.Core.Logic.{◌⊎◌, inl, inr, ◌≢◌}
use Prim.Native.Nat.{ℕ, ◌≤◌, ◌<◌}
use lib.Dec.{eqb}
use lib.ListN.{length}
use borrow.Author.Tests.{eqb-true, eq-eqb, ne_eqb, lt-ltb, ltb-true, not-true}
use Rattle.base.proofs.Cases.{case, eq_ne}
use Rattle.base.proofs.CountBelow.{counted}
use Rattle.base.proofs.Lowest.{lowest_passes, some_passes}
use Rattle.base.proofs.Tests as tests
use Rattle.parents.specs.Parents.{parent_of}
use Rattle.matching.specs.Matchings.{partner}
use Rattle.skeleton.specs.Following.{follows, is_stray, stray_count, lowest_stray}
use Rattle.skeleton.specs.Claims.{FollowsMeans}

-- A PAIR, by the parents of its joints
module _ (ps m : List ℕ) (a b : ℕ) where
  -- one of them has a parent
  pub root_alone : ((parent_of ps a ≡ 255) × (parent_of ps b ≢ 255)) ⊎ ((parent_of ps a ≢ 255) × (parent_of ps b ≡ 255)) → follows ps m a b ≡ false
  unfolding follows
  root_alone h = case h
      (λ r. rw (eq-eqb (parent_of ps a) 255 r.0, ne_eqb (parent_of ps b) 255 r.1))
      (λ r. rw (ne_eqb (parent_of ps a) 255 r.0, eq-eqb (parent_of ps b) 255 r.1))

  pub both_roots : parent_of ps a ≡ 255 → parent_of ps b ≡ 255 → follows ps m a b ≡ true
  unfolding follows
  both_roots e f = rw (eq-eqb (parent_of ps a) 255 e, eq-eqb (parent_of ps b) 255 f)

  -- both have a parent
  pub by_parents : parent_of ps a ≢ 255 → parent_of ps b ≢ 255
      → follows ps m a b ≡ (eqb (partner m (parent_of ps a)) (parent_of ps b) || eqb (parent_of ps a) (parent_of ps b))
  unfolding follows
  by_parents e f = rw (ne_eqb (parent_of ps a) 255 e, ne_eqb (parent_of ps b) 255 f) (or-false _)

  -- the parents are one joint, or both joints are roots
  pub same_parent : parent_of ps a ≡ parent_of ps b → follows ps m a b ≡ true
  same_parent e =
      case (eq_ne (parent_of ps a) 255)
      (λ r. both_roots r (sym e ∙ r))
      (λ ne. by_parents ne (λ r. ne (e ∙ r)) ∙ rw (eq-eqb (parent_of ps a) (parent_of ps b) e) (or-true (eqb (partner m (parent_of ps a)) (parent_of ps b))))

pub follows_means : FollowsMeans
follows_means ps m a b =
    case (eq_ne (parent_of ps a) 255)
    (λ e. case (eq_ne (parent_of ps b) 255)
    (λ f. (λ h. inr (e, f), λ h. both_roots ps m a b e f))
    (λ f. (λ h. absurd (tests.never _ h (root_alone ps m a b (inl (e, f)))), λ h. case h (λ p. absurd (p.0 e)) (λ r. absurd (f r.1)))))
    (λ e. case (eq_ne (parent_of ps b) 255)
    (λ f. (λ h. absurd (tests.never _ h (root_alone ps m a b (inr (e, f)))), λ h. case h (λ p. absurd (p.1 f)) (λ r. absurd (e r.0))))
    (λ f. (
      λ h. inl (e, f, case (tests.or_true _ _ (sym (by_parents ps m a b e f) ∙ h)) (λ t. inl (eqb-true _ _ t)) (λ t. inr (eqb-true _ _ t))),
      λ h. case h
          (λ p. case p.2
          (λ t. by_parents ps m a b e f ∙ rw (eq-eqb (partner m (parent_of ps a)) (parent_of ps b) t) refl)
          (same_parent ps m a b))
          (λ r. absurd (e r.0)),
    )))

-- THE HIGHER JOINT of a pair that does not follow
module _ (ps m : List ℕ) where
  pub stray_is : (b : ℕ) → is_stray ps m b ≡ true → (partner m b < b) × (follows ps m (partner m b) b ≡ false)
  unfolding is_stray
  stray_is b h = let r = tests.and_true _ _ h in (ltb-true (partner m b) b r.0, not-true _ r.1)

  pub is_stray_lem : (b : ℕ) → partner m b < b → follows ps m (partner m b) b ≡ false → is_stray ps m b ≡ true
  unfolding is_stray
  is_stray_lem b l h = rw (lt-ltb (partner m b) b l, h)

  -- where any is counted there is a lowest, and its pair
  pub stray_found : 1 ≤ stray_count ps m → (lowest_stray ps m < length m) × (is_stray ps m (lowest_stray ps m) ≡ true)
  stray_found some =
      let one : (j : ℕ) × (j < length m) × (is_stray ps m j ≡ true) = counted (length m) (is_stray ps m) some in
      let within = some_passes (length m) (is_stray ps m) one.0 one.1 one.2 in
      (within, lowest_passes (length m) (is_stray ps m) within)
