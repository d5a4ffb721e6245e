-- A section without a fault is none, or a parent for each joint.
use mathlib.Core.Path.{◌≡◌, refl, sym, ap, subst, ◌∙◌}
use mathlib.Core.Bool.{false, not}
use mathlib.Core.List.{List, [], ◌∷◌}
use mathlib.Core.Logic.{◌⊎◌, inl, inr}
use Prim.Native.Nat.{ℕ, suc, ◌+◌, ◌≤◌, ◌<◌}
use native.Mathlib.Omega.{arith}
use lib.Dec.{eqb}
use lib.ListN.{length, get_or-eq_default}
use borrow.Author.Tests.{eqb-true, eq-eqb, ne_eqb, lt-leb, leb-false, not-false}
use Rattle.base.specs.Below.{any_below}
use Rattle.base.proofs.AnyBelow.{any_none, none_any}
use Rattle.base.proofs.Cases.{case, eq_ne, lt_ge}
use Rattle.base.proofs.Faults.{when_none}
use Rattle.base.proofs.Tests.{or_false}
use Rattle.parents.specs.Parents.{parent_of, bad_parent, parents_in, extent_fault, counted_fault, parents_fault}
use Rattle.parents.specs.Claims.{Lower, OneEach, IsSection, SectionRule}
use Rattle.parents.proofs.ThirdLaws.{extent_whole, extent_exact, by_parents}

-- ONE PARENT
good_lower : (ps : List ℕ) (i : ℕ) → bad_parent ps i ≡ false → (parent_of ps i ≡ 255) ⊎ (parent_of ps i < i)
good_lower ps i h =
    case (eq_ne (parent_of ps i) 255) inl
    (λ ne. inr (leb-false i (parent_of ps i) (rw (ne_eqb (parent_of ps i) 255 ne) at h)))

lower_good : (ps : List ℕ) (i : ℕ) → (parent_of ps i ≡ 255) ⊎ (parent_of ps i < i) → bad_parent ps i ≡ false
lower_good ps i h =
    case (eq_ne (parent_of ps i) 255)
    (λ e. rw (eq-eqb (parent_of ps i) 255 e))
    (λ ne. case h (λ e. absurd (ne e)) (λ l. rw (ne_eqb (parent_of ps i) 255 ne) (lt-leb i (parent_of ps i) l)))

-- ALL OF THEM; whoever has no byte is a root
all_lower : (ps : List ℕ) → any_below (length ps) (bad_parent ps) ≡ false → Lower ps
all_lower ps h i =
    case (lt_ge i (length ps))
    (λ l. good_lower ps i (any_none (length ps) (bad_parent ps) h i l))
    (λ l. inl (get_or-eq_default ps 255 l))

none_bad : (ps : List ℕ) → Lower ps → any_below (length ps) (bad_parent ps) ≡ false
none_bad ps lower = none_any (length ps) (bad_parent ps) (λ i l. lower_good ps i (lower i))

-- a section that counts as many as it has
one_each : (n x : ℕ) (l : List ℕ) → x ≡ length l → counted_fault n x l ≡ 0 → OneEach n (x ∷ l)
unfolding counted_fault
one_each n x l e h =
    let (count, bad) = or_false (not (eqb x n)) (any_below x (bad_parent l)) (when_none _ 17 h) in
    let same : x ≡ n = eqb-true x n (not-false _ count) in
    record { counted = ap (λ (k : ℕ). k ∷ l) same; whole = sym e ∙ same; lower = all_lower l (rw e at bad) }

each_good : (n : ℕ) (ps : List ℕ) → length ps ≡ n → Lower ps → (extent_fault (n ∷ ps) ≡ 0) × (parents_fault n (n ∷ ps) ≡ 0)
unfolding parents_fault
each_good n ps e lower = (extent_whole (n ∷ ps) (omega arith), by_parents n n ps refl {b = false} (rw (← e) (none_bad ps lower)))

each_whole : (n : ℕ) (third : List ℕ) → OneEach n third → (extent_fault third ≡ 0) × (parents_fault n third ≡ 0)
each_whole n third o =
    subst (λ (l : List ℕ). (extent_fault l ≡ 0) × (parents_fault n l ≡ 0)) (sym o.counted) (each_good n (parents_in third) o.whole o.lower)

pub section_rule : SectionRule
unfolding parents_fault
section_rule n [] = (λ h. inl refl, λ h. (extent_whole [] refl, refl))
section_rule n (x ∷ l) = (
  λ h. inr (one_each n x l (extent_exact (x ∷ l) (λ z. omega arith) h.0) h.1),
  λ h. case h
      (λ e. let long : length (x ∷ l) ≡ 0 = ap length e in absurd (omega arith))
      (each_whole n (x ∷ l)),
)

-- it has a byte more than there are joints, at most
pub third_most : (n : ℕ) (third : List ℕ) → IsSection n third → length third ≤ n + 1
third_most n third h =
    case h
    (λ e. let z : length third ≡ 0 = ap length e in omega arith)
    (λ o. let count : length third ≡ suc (length (parents_in third)) = ap length o.counted in let whole = o.whole in omega arith)
