-- An entry's place: its joint's row, its candidate's place there.
use mathlib.Core.Path.{◌≡◌}
use mathlib.Core.Logic.{◌⊎◌, inl, inr, ◌≢◌}
use Prim.Native.Nat.{ℕ, ◌<◌}
use Rattle.sections.specs.declared.Entry.{Entry}
use Rattle.base.proofs.Cases.{case, eq_ne}

-- e has the place (a, b); or it has not
abbrev pub Here : Entry → ℕ → ℕ → Type 0
Here e a b = (a ≡ e.joint) × (b ≡ e.other)

abbrev pub Elsewhere : Entry → ℕ → ℕ → Type 0
Elsewhere e a b = (a ≢ e.joint) ⊎ (b ≢ e.other)

pub here_or_not : (e : Entry) (a b : ℕ) → Here e a b ⊎ Elsewhere e a b
here_or_not e a b =
    case (eq_ne a e.joint)
    (λ h. case (eq_ne b e.other) (λ g. inl (h, g)) (λ g. inr (inr g)))
    (λ h. inr (inl h))

-- none of m entries has the place
abbrev pub Nowhere : ℕ → (ℕ → Entry) → ℕ → ℕ → Type 0
Nowhere m es a b = (j : ℕ) → j < m → Elsewhere (es j) a b
