-- There are at most six factors, each at most 6.
use Rattle.std.proofs.Common.{rules, ℕ, zero, suc, ◌*◌, ◌<◌, ◌≤◌, List, [], ◌∷◌, length, get_or, arith}
use Rattle.std.proofs.iter.runs.Sources.{ranges}
use Rattle.std.specs.List.{fold}
use native.Mathlib.Nat.{mul-le-mul, le_refl}
use Rattle.skeleton_test.proofs.every.skeletons.Goals as goal

-- b with so many factors 6 more
abbrev sixes : ℕ → ℕ → ℕ
sixes zero b = b
sixes (suc l) b = sixes l (b * 6)

grows : (l b : ℕ) → b ≤ sixes l b
grows zero b = le_refl b
grows (suc l) b = let h = grows l (b * 6) in omega (arith, h)

small : (xs : List ℕ) (l a b : ℕ) → a ≤ b → length xs ≤ l → ((k : ℕ) → k < length xs → get_or xs k 0 ≤ 6) → fold {A = ℕ} {B = ℕ} (λ a x. a * x) a xs ≤ sixes l b
small [] l a b le few each = let h = grows l b in omega (arith, h, le)
small (x ∷ xs) zero a b le few each = absurd (omega (arith, few))
small (x ∷ xs) (suc l) a b le few each = small xs l (a * x) (b * 6) (mul-le-mul le (each 0 (omega arith))) (omega (arith, few)) (λ k h. each (suc k) (omega (arith, h)))

pub product-requires-clause-fits : goal.product-requires-clause-fits
product-requires-clause-fits c p seen from =
    let few : length p.items ≤ 6 = search (rules, ranges) in
    let each : (k : ℕ) → k < length p.items → get_or p.items k 0 ≤ 6 = λ k h. search (rules, ranges) in
    let bound = small p.items 6 1 1 (omega arith) few each in omega (arith, bound)
