-- The parents of a hierarchy's joints are lower numbers, or 255.
use mathlib.Core.Path.{◌≡◌, refl, ap}
use mathlib.Core.List.{List, [], ◌∷◌, ◌++◌}
use mathlib.Core.Logic.{◌⊎◌, inl, inr}
use Prim.Native.Nat.{ℕ, zero, suc, ◌+◌, ◌<◌}
use native.Mathlib.Omega.{arith}
use lib.ListN.{length, length-append}
use Rattle.base.proofs.Cases.{case}
use Rattle.parents.specs.Parents.{parent_of}
use Rattle.hierarchy.specs.Spelt.{Inside, nothing, end_site, joint, Roots, single, more, names_in, root_names, enclosing, root_enclosing}
use Rattle.hierarchy.specs.Claims.{ParentsLower}

-- ONE FOR EACH NAME
pub inside_each : (i : Inside) (own k : ℕ) → length (enclosing own k i) ≡ length (names_in i)
unfolding enclosing names_in
inside_each nothing own k = refl
inside_each (end_site o after) own k = inside_each after own k
inside_each (joint name o c inside after) own k =
    let a = inside_each inside k (k + 1) in
    let b = inside_each after own (k + 1 + length (names_in inside)) in
    simp length-append (omega arith)

roots_each : (h : Roots) (k : ℕ) → length (root_enclosing k h) ≡ length (root_names h)
unfolding root_enclosing root_names
roots_each (single name o c inside) k = ap suc (inside_each inside k (k + 1))
roots_each (more name o c inside after) k =
    let a = inside_each inside k (k + 1) in
    let b = roots_each after (k + 1 + length (names_in inside)) in
    simp length-append (omega arith)

-- LOWER, where the first of these joints has the number k
abbrev LowerFrom : ℕ → List ℕ → Type 0
LowerFrom k ps = (i : ℕ) → (parent_of ps i ≡ 255) ⊎ (parent_of ps i < k + i)

lower_first : (k p : ℕ) (ps : List ℕ) → (p ≡ 255) ⊎ (p < k) → LowerFrom (k + 1) ps → LowerFrom k (p ∷ ps)
lower_first k p ps h rest zero = case h inl (λ l. inr (omega arith))
lower_first k p ps h rest (suc i) = case (rest i) inl (λ l. inr (omega arith))

lower_append : (ps qs : List ℕ) (k : ℕ) → LowerFrom k ps → LowerFrom (k + length ps) qs → LowerFrom k (ps ++ qs)
lower_append [] qs k a b i = case (b i) inl (λ l. inr (omega arith))
lower_append (p ∷ ps) qs k a b zero = a zero
lower_append (p ∷ ps) qs k a b (suc i) =
    case
    (lower_append ps qs (k + 1) (λ j. case (a (suc j)) inl (λ l. inr (omega arith))) (λ j. case (b j) inl (λ l. inr (omega arith))) i)
    inl
    (λ l. inr (omega arith))

-- a joint's parent, those in its block, and those behind it
lower_block : (p k : ℕ) (inside : Inside) (ps : List ℕ) → (p ≡ 255) ⊎ (p < k) → LowerFrom (k + 1) (enclosing k (k + 1) inside)
    → LowerFrom (k + 1 + length (names_in inside)) ps → LowerFrom k (p ∷ (enclosing k (k + 1) inside ++ ps))
lower_block p k inside ps h a b =
    lower_first k p (enclosing k (k + 1) inside ++ ps) h (lower_append (enclosing k (k + 1) inside) ps (k + 1) a (rw (inside_each inside k (k + 1)) b))

inside_lower : (i : Inside) (own k : ℕ) → own < k → LowerFrom k (enclosing own k i)
unfolding enclosing
inside_lower nothing own k h j = inl refl
inside_lower (end_site o after) own k h j = inside_lower after own k h j
inside_lower (joint name o c inside after) own k h j =
    lower_block own k inside _ (inr h) (inside_lower inside k (k + 1) (omega arith))
    (inside_lower after own (k + 1 + length (names_in inside)) (omega arith)) j

roots_lower : (h : Roots) (k : ℕ) → LowerFrom k (root_enclosing k h)
unfolding root_enclosing
roots_lower (single name o c inside) k = lower_first k 255 (enclosing k (k + 1) inside) (inl refl) (inside_lower inside k (k + 1) (omega arith))
roots_lower (more name o c inside after) k =
    lower_block 255 k inside _ (inl refl) (inside_lower inside k (k + 1) (omega arith)) (roots_lower after (k + 1 + length (names_in inside)))

pub parents_lower : ParentsLower
parents_lower h = (roots_each h 0, λ i. case (roots_lower h 0 i) inl (λ l. inr (omega arith)))
