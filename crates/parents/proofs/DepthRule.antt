-- Depth goes by the parents: enough steps up reach the root.
use mathlib.Core.Path.{◌≡◌, sym, ap, ◌∙◌}
use mathlib.Core.List.{List}
use Prim.Native.Nat.{ℕ, zero, suc, ◌+◌, ◌≤◌, ◌<◌}
use native.Mathlib.Omega.{arith}
use borrow.Author.Tests.{eq-eqb, ne_eqb}
use Rattle.base.proofs.Cases.{case, eq_ne}
use Rattle.std.proofs.Common.{rules, Some, None, ◌≢◌}
use Rattle.sections.specs.Joints.{joint_in}
use Rattle.parents.specs.Parents.{parent_of}
use Rattle.parents.specs.Depths.{depth_in, depth_of}
use Rattle.parents.specs.Claims.{Lower, DepthRule}

-- A JOINT is a root, or has a parent
pub no_parent : (ps : List ℕ) (i : ℕ) → joint_in ps i ≡ None → parent_of ps i ≡ 255
no_parent ps i h = case (eq_ne (parent_of ps i) 255) (λ e. e) (λ ne. let k : Some (parent_of ps i) ≡ None = rw (ne_eqb _ _ ne) at h in search rules)

pub own_parent : (ps : List ℕ) (i a : ℕ) → joint_in ps i ≡ Some a → (parent_of ps i ≡ a) × (a ≢ 255)
own_parent ps i a h =
    case (eq_ne (parent_of ps i) 255)
    (λ e. let k : None ≡ Some a = rw (eq-eqb _ _ e) at h in search rules)
    (λ ne. let k : Some (parent_of ps i) ≡ Some a = rw (ne_eqb _ _ ne) at h in let same : parent_of ps i ≡ a = search rules in (same, λ z. ne (same ∙ z)))

-- ONE STEP UP
pub depth_root : (f : ℕ) (ps : List ℕ) (i : ℕ) → parent_of ps i ≡ 255 → depth_in (suc f) ps i ≡ 0
unfolding depth_in
depth_root f ps i e = rw (eq-eqb (parent_of ps i) 255 e)

pub depth_up : (f : ℕ) (ps : List ℕ) (i : ℕ) → (parent_of ps i ≡ 255 → ⊥) → depth_in (suc f) ps i ≡ suc (depth_in f ps (parent_of ps i))
unfolding depth_in
depth_up f ps i ne = rw (ne_eqb (parent_of ps i) 255 ne)

module _ (ps : List ℕ) (lower : Lower ps) where
  pub parent_lower : (i : ℕ) → (parent_of ps i ≡ 255 → ⊥) → parent_of ps i < i
  parent_lower i ne = case (lower i) (λ e. absurd (ne e)) (λ l. l)

  -- more steps than the joint's number are enough
  depth_fuel : (f g i : ℕ) → i < f → i < g → depth_in f ps i ≡ depth_in g ps i
  depth_fuel zero g i lf lg = absurd (omega arith)
  depth_fuel (suc f) zero i lf lg = absurd (omega arith)
  depth_fuel (suc f) (suc g) i lf lg =
      case (eq_ne (parent_of ps i) 255)
      (λ e. depth_root f ps i e ∙ sym (depth_root g ps i e))
      (λ ne.
      let l = parent_lower i ne in
      depth_up f ps i ne ∙ ap suc (depth_fuel f g (parent_of ps i) (omega arith) (omega arith)) ∙ sym (depth_up g ps i ne))

  depth_most : (f i : ℕ) → depth_in f ps i ≤ i
  unfolding depth_in
  depth_most zero i = omega arith
  depth_most (suc f) i =
      case (eq_ne (parent_of ps i) 255)
      (λ e. rw (depth_root f ps i e) (omega arith))
      (λ ne. let l = parent_lower i ne in let m = depth_most f (parent_of ps i) in rw (depth_up f ps i ne) (omega arith))

  pub depth_above : (i : ℕ) → (parent_of ps i ≡ 255 → ⊥) → depth_of ps i ≡ depth_of ps (parent_of ps i) + 1
  depth_above i ne =
      let l = parent_lower i ne in
      let same = depth_fuel i (suc (parent_of ps i)) (parent_of ps i) l (omega arith) in
      omega (arith, depth_up i ps i ne, same)

pub depth_rule : DepthRule
depth_rule ps lower i = record { at_root = depth_root i ps i; below = depth_above ps lower i; at_most = depth_most ps lower (suc i) i }
