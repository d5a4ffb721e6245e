-- Laws of the section, one for each way that its readers take.
use mathlib.Core.Path.{◌≡◌, refl, ◌∙◌}
use mathlib.Core.Bool.{Bool, not, ◌||◌}
use mathlib.Core.List.{List, [], ◌∷◌}
use Prim.Native.Nat.{ℕ, ◌-◌, ◌<◌}
use native.Mathlib.Omega.{arith}
use lib.Dec.{eqb, ltb}
use lib.ListN.{length, get_or}
use borrow.Author.Tests.{lt-ltb, le-ltb, eq-eqb, ne_eqb, ltb-false}
use Rattle.base.specs.Below.{any_below}
use Rattle.base.specs.Faults.{when}
use Rattle.base.proofs.Faults.{fault_stops, fault_passes, last_fault, first_none, first_holds, when_none, when_holds}
use Rattle.refusals.proofs.Numbers.{IsFault, is_fault}
use Rattle.parents.specs.Parents.{bad_parent, extent_fault, counted_fault, parents_fault, parents_in}

-- ITS EXTENT, for a section that is left out, cut short, followed by bytes, and neither
pub extent_none : (third : List ℕ) → length third ≡ 0 → extent_fault third ≡ 0
unfolding extent_fault
extent_none [] h = refl
extent_none (x ∷ l) h = absurd (omega arith)

pub extent_short : (third : List ℕ) → (length third ≡ 0 → ⊥) → length third - 1 < get_or third 0 0 → extent_fault third ≡ 1
unfolding extent_fault
extent_short [] some h = absurd (some refl)
extent_short (x ∷ l) some h = rw (lt-ltb (length l) x (omega arith)) (fault_stops 1 _ (λ z. omega arith))

pub extent_long : (third : List ℕ) → get_or third 0 0 < length third - 1 → extent_fault third ≡ 8
unfolding extent_fault
extent_long [] h = absurd (omega arith)
extent_long (x ∷ l) h =
    let more : x < length l = omega arith in
    rw (le-ltb (length l) x (omega arith), lt-ltb x (length l) more) (fault_passes 0 _ refl ∙ last_fault 8)

pub extent_whole : (third : List ℕ) → get_or third 0 0 ≡ length third - 1 → extent_fault third ≡ 0
unfolding extent_fault
extent_whole [] h = refl
extent_whole (x ∷ l) h =
    let same : x ≡ length l = omega arith in
    rw (le-ltb (length l) x (omega arith), le-ltb x (length l) (omega arith)) (fault_passes 0 _ refl ∙ last_fault 0)

-- a section that goes to the sheet's end has as many parents as it counts
pub extent_exact : (third : List ℕ) → (length third ≡ 0 → ⊥) → extent_fault third ≡ 0 → get_or third 0 0 ≡ length (parents_in third)
unfolding extent_fault
extent_exact [] some h = absurd (some refl)
extent_exact (x ∷ l) some h =
    let (one, rest) = first_none (when (ltb (length l) x) 1) _ h in
    let (eight, none) = first_none (when (ltb x (length l)) 8) _ rest in
    let long = ltb-false (length l) x (when_none _ _ one) in
    let short = ltb-false x (length l) (when_none _ _ eight) in
    omega arith

-- ITS PARENTS
pub parents_none : (n : ℕ) (third : List ℕ) → length third ≡ 0 → parents_fault n third ≡ 0
unfolding parents_fault
parents_none n [] h = refl
parents_none n (x ∷ l) h = absurd (omega arith)

pub parents_some : (n : ℕ) (third : List ℕ) → (length third ≡ 0 → ⊥) → parents_fault n third ≡ counted_fault n (get_or third 0 0) (parents_in third)
unfolding parents_fault
parents_some n [] some = absurd (some refl)
parents_some n (x ∷ l) some = refl

module _ (n count : ℕ) (part : List ℕ) where
  pub other_count : (count ≡ n → ⊥) → counted_fault n count part ≡ 18
  unfolding counted_fault
  other_count h = rw (ne_eqb count n h)

  pub by_parents : count ≡ n → {b : Bool} → any_below count (bad_parent part) ≡ b → counted_fault n count part ≡ when b 18
  unfolding counted_fault
  by_parents e h = rw (h, eq-eqb count n e)

-- WHICH NUMBERS it is refused with: 1 and 8; 18
pub extent_holds : (P : ℕ → Type 0) (third : List ℕ) → P 0 → P 1 → P 8 → P (extent_fault third)
unfolding extent_fault
extent_holds P [] none one eight = none
extent_holds P (x ∷ l) none one eight =
    first_holds P _ _ (when_holds P (ltb (length l) x) 1 none one)
    (rw (last_fault (when (ltb x (length l)) 8)) (when_holds P (ltb x (length l)) 8 none eight))

pub parents_holds : (P : ℕ → Type 0) (n : ℕ) (third : List ℕ) → P 0 → P 18 → P (parents_fault n third)
unfolding parents_fault counted_fault
parents_holds P n [] none h = none
parents_holds P n (x ∷ l) none h = when_holds P (not (eqb x n) || any_below x (bad_parent l)) 18 none h

-- each is a refusal's
pub extent_is_fault : (third : List ℕ) → IsFault (extent_fault third)
extent_is_fault third =
    extent_holds IsFault third (is_fault 0 (omega arith) (λ e. omega arith)) (is_fault 1 (omega arith) (λ e. omega arith))
    (is_fault 8 (omega arith) (λ e. omega arith))

pub parents_is_fault : (n : ℕ) (third : List ℕ) → IsFault (parents_fault n third)
parents_is_fault n third =
    parents_holds IsFault n third (is_fault 0 (omega arith) (λ e. omega arith)) (is_fault 18 (omega arith) (λ e. omega arith))
