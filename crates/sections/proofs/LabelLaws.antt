-- Laws of the labels' definitions, for the chains that compute them.
use mathlib.Core.Path.{◌≡◌, refl, sym, ap, ◌∙◌}
use mathlib.Core.Bool.{Bool, true, false, ◌&&◌, ◌||◌}
use mathlib.Core.List.{List, [], ◌∷◌}
use mathlib.Core.Logic.{◌≢◌}
use Prim.Native.Nat.{ℕ, zero, suc, ◌≤◌, ◌<◌}
use native.Mathlib.Numerals.{add-one}
use native.Mathlib.Omega.{arith}
use lib.Dec.{eqb}
use lib.ListN.{length, get_or, take}
use lib.Pointwise.{pointwise, bytes_decides}
use borrow.Author.Tests.{eq-eqb, eqb-true}
use Rattle.std.specs.List.{list_any}
use Rattle.std.proofs.lemmas.List.Folds.{list_any_more}
use Rattle.base.specs.Below.{any_below}
use Rattle.base.proofs.Cases.{case, both_ways}
use Rattle.base.proofs.Tests.{not_so, and_true}
use Rattle.sections.specs.Labels.{visible, visible_run, all_zero, same_bytes}

-- the run of a label: up to the first byte that is not visible
pub run_told : (l : List ℕ) (k : ℕ) → k ≤ length l → ((i : ℕ) → i < k → visible (get_or l i 0) ≡ true) → (k < length l → visible (get_or l k 0) ≡ false)
    → visible_run l ≡ k
unfolding visible_run
run_told [] k w seen stop = omega arith
run_told (b ∷ l) zero w seen stop = rw (stop (omega arith))
run_told (b ∷ l) (suc k) w seen stop =
    rw (seen 0 (omega arith)) (ap suc (run_told l k (omega arith) (λ i h. seen (suc i) (omega arith)) (λ h. stop (omega arith))))

-- all bytes are zero, or one is not
pub zero_at : (l : List ℕ) → all_zero l ≡ true → (i : ℕ) → get_or l i 0 ≡ 0
unfolding all_zero
zero_at [] h i = refl
zero_at (b ∷ l) h zero = eqb-true b 0 (and_true (eqb b 0) (all_zero l) h).0
zero_at (b ∷ l) h (suc i) = zero_at l (and_true (eqb b 0) (all_zero l) h).1 i

pub at_zero : (l : List ℕ) → ((i : ℕ) → i < length l → get_or l i 0 ≡ 0) → all_zero l ≡ true
unfolding all_zero
at_zero [] h = refl
at_zero (b ∷ l) h = rw (eq-eqb b 0 (h 0 (omega arith))) (at_zero l (λ i g. h (suc i) (omega arith)))

pub zero_told : (l : List ℕ) (r : Bool) → (r ≡ true → (i : ℕ) → i < length l → get_or l i 0 ≡ 0) → (r ≡ false → (i : ℕ) × (get_or l i 0 ≢ 0)) → r ≡ all_zero l
zero_told l r zeros other =
    case (both_ways r)
    (λ t. t ∙ sym (at_zero l (zeros t)))
    (λ f. f ∙ sym (not_so (all_zero l) (λ t. let o : (i : ℕ) × (get_or l i 0 ≢ 0) = other f in o.1 (zero_at l t o.0))))

-- the test of two labels holds exactly for equal ones
pub same_true : (a b : List ℕ) → a ≡ b → same_bytes a b ≡ true
unfolding same_bytes
same_true a b e = rw (← e) (self a)
  where
    self : (l : List ℕ) → same_bytes l l ≡ true
    self [] = refl
    self (x ∷ l) = rw (eq-eqb x x refl) (self l)

pub same_equal : (a b : List ℕ) → same_bytes a b ≡ true → a ≡ b
unfolding same_bytes
same_equal [] [] e = refl
same_equal [] (y ∷ b) e = absurd (let z : ◌≡◌ {A = ℕ} 0 1 = cc in omega arith)
same_equal (x ∷ a) [] e = absurd (let z : ◌≡◌ {A = ℕ} 0 1 = cc in omega arith)
same_equal (x ∷ a) (y ∷ b) e = go (eqb x y) refl e (same_equal a b)
  where
    go : (t : Bool) → eqb x y ≡ t → t && same_bytes a b ≡ true → (same_bytes a b ≡ true → a ≡ b) → x ∷ a ≡ y ∷ b
    go true p q rest = let h = eqb-true x y p in let k = rest q in cc
    go false p q rest = absurd (let z : ◌≡◌ {A = ℕ} 0 1 = cc in omega arith)

-- what the library's comparison of slices says, as the test
pub same_is : (r : Bool) (a b : List ℕ) → (r ≡ true → a ≡ b) × (a ≡ b → r ≡ true) → r ≡ same_bytes a b
same_is r a b h = go r (same_bytes a b) (λ e. same_true a b (h.0 e)) (λ e. h.1 (same_equal a b e))
  where
    go : (x y : Bool) → (x ≡ true → y ≡ true) → (y ≡ true → x ≡ true) → x ≡ y
    go true y f g = sym (f refl)
    go false true f g = g refl
    go false false f g = refl

-- the library's search of the labels before one, and its comparison
abbrev pub is_again : List (List ℕ) → ℕ → List ℕ → Bool
is_again labels i l = pointwise eqb l (get_or labels i [])

pub any_in_front : (test : List ℕ → Bool) (labels : List (List ℕ)) (i : ℕ) → i ≤ length labels
    → list_any test (take i labels) ≡ any_below i (λ j. test (get_or labels j []))
unfolding any_below
any_in_front test labels zero h = refl
any_in_front test labels (suc i) h =
    let more = rw (add-one i) at (list_any_more test labels i [] (omega arith)) in
    more ∙ ap (λ (b : Bool). b || test (get_or labels i [])) (any_in_front test labels i (omega arith))

pub same_either_way : (a b : List ℕ) → pointwise eqb a b ≡ same_bytes b a
same_either_way a b = same_is (pointwise eqb a b) b a (λ t. sym ((bytes_decides a b).0 t), λ e. (bytes_decides a b).1 (sym e))
