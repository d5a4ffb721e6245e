-- A list of faults in two parts: the first fault of the first part, and if there is none, that of the second.
use mathlib.Core.Path.{◌≡◌, refl, ◌∙◌}
use mathlib.Core.List.{List, [], ◌∷◌}
use Prim.Native.Nat.{ℕ, zero, suc}
use lib.ListN.{take, drop}
use Rattle.base.specs.Faults.{first_fault}
use Rattle.base.proofs.Faults.{fault_stops, fault_passes}

pub split_faults : (k : ℕ) (faults : List ℕ) → first_fault faults ≡ first_fault (first_fault (take k faults) ∷ drop k faults)
unfolding first_fault
split_faults zero faults = refl
split_faults (suc k) [] = refl
split_faults (suc k) (zero ∷ faults) = split_faults k faults
split_faults (suc k) (suc f ∷ faults) = refl

module _ (k : ℕ) (faults : List ℕ) where
  pub in_first_part : (f : ℕ) → first_fault (take k faults) ≡ f → (f ≡ 0 → ⊥) → first_fault faults ≡ f
  in_first_part f e h = split_faults k faults ∙ fault_stops _ _ (λ z. h (rw e at z)) ∙ e

  pub in_second_part : first_fault (take k faults) ≡ 0 → first_fault faults ≡ first_fault (drop k faults)
  in_second_part e = split_faults k faults ∙ fault_passes _ _ e
