-- If all pairs follow, paired joints have equal depth: a pair's depths go by those of the parents' pair, whose lower joint is lower.
use mathlib.Core.Path.{◌≡◌, refl, sym, ap, ◌∙◌}
use mathlib.Core.List.{List}
use mathlib.Core.Logic.{◌⊎◌, inl, inr, ◌≢◌}
use Prim.Native.Nat.{ℕ, zero, suc, ◌≤◌, ◌<◌}
use native.Mathlib.Omega.{arith}
use Rattle.base.proofs.Cases.{case, lt_ge, eq_ne}
use Rattle.parents.specs.Parents.{parent_of}
use Rattle.parents.specs.Depths.{depth_of}
use Rattle.parents.specs.Claims.{Lower}
use Rattle.parents.proofs.DepthRule.{depth_root, depth_above, parent_lower}
use Rattle.matching.specs.Plain.{Matching}
use Rattle.skeleton.specs.Plain.{Follows, Stray}
use Rattle.skeleton.specs.Claims.{EqualDepth}

follows_or_not : (parent partner : ℕ → ℕ) (a b : ℕ) → Follows parent partner a b ⊎ (Follows parent partner a b → ⊥)
follows_or_not parent partner a b =
    case (eq_ne (parent a) 255)
    (λ e. case (eq_ne (parent b) 255)
    (λ f. inl (inr (e, f)))
    (λ f. inr (λ h. case h (λ p. p.0 e) (λ r. f r.1))))
    (λ e. case (eq_ne (parent b) 255)
    (λ f. inr (λ h. case h (λ p. p.1 f) (λ r. e r.0)))
    (λ f. case (eq_ne (partner (parent a)) (parent b))
    (λ t. inl (inl (e, f, inl t)))
    (λ t. case (eq_ne (parent a) (parent b))
    (λ u. inl (inl (e, f, inr u)))
    (λ u. inr (λ h. case h (λ p. case p.2 t u) (λ r. e r.0))))))

module _ (n : ℕ) (band : ℕ → ℕ → ℕ) (partner : ℕ → ℕ) (ps : List ℕ) (few : n ≤ 128) (matching : Matching n band partner) (lower : Lower ps)
    (none : (a b : ℕ) → Stray n (parent_of ps) partner a b → ⊥) where
  -- whoever is paired with a joint is its partner
  back : (a b : ℕ) → a < n → b < n → partner a ≡ b → partner b ≡ a
  back a b la lb e = case (matching.placed a la) (λ u. absurd (omega arith)) (λ p. rw e at p.back)

  -- the depths of a and b, a below b, are equal
  abbrev Agree : ℕ → ℕ → Type 0
  Agree a b = a < b → b < n → partner b ≡ a → depth_of ps a ≡ depth_of ps b

  -- .. and then so are those of any two that are paired together
  together : (f : ℕ) → ((a b : ℕ) → a < f → Agree a b) → (a b : ℕ) → a < f → a < n → b < n → partner a ≡ b → depth_of ps a ≡ depth_of ps b
  together f below a b l la lb e =
      case (lt_ge a b)
      (λ h. below a b l h lb (back a b la lb e))
      (λ h. case (eq_ne a b) (ap (depth_of ps)) (λ ne. sym (below b a (omega arith) (omega arith) la e)))

  agree : (f a b : ℕ) → a < f → Agree a b
  agree zero a b l h lb e = absurd (omega arith)
  agree (suc f) a b l h lb e =
      case (follows_or_not (parent_of ps) partner a b)
      (λ follows. case follows
      (λ p.
      let la = parent_lower ps lower a p.0 in
      let l' = parent_lower ps lower b p.1 in
      let same : depth_of ps (parent_of ps a) ≡ depth_of ps (parent_of ps b) =
      case p.2 (together f (agree f) (parent_of ps a) (parent_of ps b) (omega arith) (omega arith) (omega arith)) (ap (depth_of ps)) in
      omega (arith, depth_above ps lower a p.0, depth_above ps lower b p.1, same))
      (λ r. depth_root a ps a r.0 ∙ sym (depth_root b ps b r.1)))
      (λ astray. absurd (none a b (record { below = h; joint = lb; paired = e; astray = astray })))

  paired_agree : (a : ℕ) → a < n → partner a ≢ 255 → depth_of ps a ≡ depth_of ps (partner a)
  paired_agree a la paired =
      case (matching.placed a la)
      (λ u. absurd (paired u))
      (λ p. together (suc a) (agree (suc a)) a (partner a) (omega arith) la p.with_joint refl)

pub equal_depth : EqualDepth
equal_depth = paired_agree
