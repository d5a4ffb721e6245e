-- Case distinctions; the library's by the names used here.
use mathlib.Core.Path.{◌≡◌}
use mathlib.Core.Logic.{◌⊎◌, inl, inr}
use Prim.Native.Nat.{ℕ, suc, ◌<◌}
use native.Mathlib.Omega.{arith}
pub use Rattle.std.proofs.lemmas.Bool.{cases_Bool as both_ways, cases_lt as lt_ge, cases_eq as eq_ne}

-- with the scrutinee first, so that the arms know their types
pub case {ℓ} : {A B : Type 0} {C : Type ℓ} → A ⊎ B → (A → C) → (B → C) → C
case (inl a) f g = f a
case (inr b) f g = g b

-- a number below suc i is i or below it
pub below_suc : {j i : ℕ} → j < suc i → (j ≡ i) ⊎ (j < i)
below_suc {j} {i} h = case (eq_ne j i) inl (λ e. inr (omega arith))

-- two constructors that are equal tell, by cc, that 0 is 1
pub unlike : ◌≡◌ {A = ℕ} 0 1 → ⊥
unlike z = omega arith
