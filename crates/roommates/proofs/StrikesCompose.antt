-- Strikes after strikes are strikes, and so are a trim and a proposal.
use mathlib.Core.Path.{refl, ◌∙◌}
use Prim.Native.Nat.{ℕ, ◌<◌}
use Rattle.base.proofs.Cases.{case}
use Rattle.roommates.proofs.Basics.{Bands, Below}
use Rattle.roommates.proofs.Proposals.{Trim, State, Proposal}

-- who is listed after strikes was listed before
pub was_there : {A B : Bands} → Below A B → (a b : ℕ) → 0 < A a b → 0 < B a b
was_there s a b l = rw (← s.kept a b l) l

pub below_refl : {T : Bands} → ((a b : ℕ) → 0 < T a b → 0 < T b a) → Below T T
below_refl both = record { kept = λ a b h. refl; both = both }

pub below_trans : {A B C : Bands} → Below A B → Below B C → Below A C
below_trans s t = record { kept = λ a b l. s.kept a b l ∙ t.kept a b (was_there s a b l); both = s.both }

pub trim_below : {T T₀ : Bands} {v k : ℕ} → Trim T T₀ v k → Below T₀ T
trim_below s = record { kept = s.same; both = s.both }

pub proposal_below : {w w' : State} {p q : ℕ} → Proposal w w' p q → Below w'.lists w.lists
proposal_below step = case step.strikes (λ t. trim_below t.0) (λ t. trim_below t.0)
