-- The stages of a working: which are ends, and that they differ.
use mathlib.Core.Path.{◌≡◌, refl, sym, ◌∙◌, ap}
use mathlib.Core.Logic.{◌⊎◌, inl, inr}
use Prim.Native.Nat.{ℕ}
use native.Mathlib.Omega.{arith}
use Rattle.base.proofs.Cases.{case}
use Rattle.roommates.specs.declared.Stage.{Stage}
use Rattle.roommates.specs.declared.Stage.TheVariants.{Proposing, Cutting, NoneOne, NoneTwo, Paired}

-- the stage of an end
abbrev pub Over : Stage → Type 0
Over s = (s ≡ NoneOne) ⊎ ((s ≡ NoneTwo) ⊎ (s ≡ Paired))

-- every stage is phase one, phase two or an end
pub each_stage : (s : Stage) → (s ≡ Proposing) ⊎ ((s ≡ Cutting) ⊎ Over s)
each_stage Proposing = inl refl
each_stage Cutting = inr (inl refl)
each_stage NoneOne = inr (inr (inl refl))
each_stage NoneTwo = inr (inr (inr (inl refl)))
each_stage Paired = inr (inr (inr (inr refl)))

-- one number to each
rank : Stage → ℕ
rank Proposing = 0
rank Cutting = 1
rank NoneOne = 2
rank NoneTwo = 3
rank Paired = 4

ranked : {s a b : Stage} → s ≡ a → s ≡ b → rank a ≡ rank b
ranked e f = ap rank (sym e ∙ f)

pub one_two : {s : Stage} → s ≡ NoneOne → s ≡ NoneTwo → ⊥
unfolding rank
one_two e f = let z : ◌≡◌ {A = ℕ} 2 3 = ranked e f in omega arith

pub one_paired : {s : Stage} → s ≡ NoneOne → s ≡ Paired → ⊥
unfolding rank
one_paired e f = let z : ◌≡◌ {A = ℕ} 2 4 = ranked e f in omega arith

pub two_paired : {s : Stage} → s ≡ NoneTwo → s ≡ Paired → ⊥
unfolding rank
two_paired e f = let z : ◌≡◌ {A = ℕ} 3 4 = ranked e f in omega arith

pub phases_differ : {s : Stage} → s ≡ Proposing → s ≡ Cutting → ⊥
unfolding rank
phases_differ e f = let z : ◌≡◌ {A = ℕ} 0 1 = ranked e f in omega arith

-- phase one and phase two are no ends
pub one_goes_on : {s : Stage} → s ≡ Proposing → Over s → ⊥
unfolding rank
one_goes_on g h =
    case h
    (λ e. let z : ◌≡◌ {A = ℕ} 0 2 = ranked g e in omega arith)
    (λ h. case h (λ e. let z : ◌≡◌ {A = ℕ} 0 3 = ranked g e in omega arith) (λ e. let z : ◌≡◌ {A = ℕ} 0 4 = ranked g e in omega arith))

pub two_goes_on : {s : Stage} → s ≡ Cutting → Over s → ⊥
unfolding rank
two_goes_on g h =
    case h
    (λ e. let z : ◌≡◌ {A = ℕ} 1 2 = ranked g e in omega arith)
    (λ h. case h (λ e. let z : ◌≡◌ {A = ℕ} 1 3 = ranked g e in omega arith) (λ e. let z : ◌≡◌ {A = ℕ} 1 4 = ranked g e in omega arith))
