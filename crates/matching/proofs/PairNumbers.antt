-- Pair numbers: one after another, the pairs below a higher joint first, so no two pairs share a number, and 128 joints have 8,128.
use mathlib.Core.Path.{◌≡◌, refl, ap}
use Prim.Native.Nat.{ℕ, zero, suc, ◌+◌, ◌-◌, ◌*◌, ◌/◌, ◌≤◌, ◌<◌}
use native.Mathlib.Nat.{zero-add, add-suc, mul-suc, suc-mul}
use native.Mathlib.Numerals.{sub-one}
use native.Mathlib.Omega.{arith}
use Rattle.matching.specs.Matchings.{pair_number}
use Rattle.matching.specs.Claims.{PairNumberConsecutive, PairNumberRises, PairNumberSmall, PairNumberInjective}
use Rattle.base.proofs.Cases.{case, lt_ge}

-- how many pairs have their higher joint below b
tri : ℕ → ℕ
tri b = b * (b - 1) / 2

doubled : (b : ℕ) → suc b * (suc b - 1) ≡ b * (b - 1) + 2 * b
doubled zero = refl
doubled (suc k) = simp sub-one (omega (arith, suc-mul (suc k) (suc k), mul-suc (suc k) k))

tri_suc : (b : ℕ) → tri (suc b) ≡ tri b + b
unfolding tri
tri_suc b = omega (arith, doubled b)

tri_rises : (k b : ℕ) → tri b ≤ tri (k + b)
tri_rises zero b = omega (arith, ap tri (zero-add b))
tri_rises (suc k) b =
    let e : suc k + b ≡ suc (k + b) = omega arith in
    omega (arith, tri_rises k b, ap tri e, tri_suc (k + b))

-- the pairs with the higher joint b lie between tri b and tri (b + 1)
below_next : (a b : ℕ) → a < b → pair_number a b < tri (suc b)
unfolding tri
below_next a b h = omega (arith, tri_suc b)

up_to : (b d : ℕ) → b ≤ d → tri b ≤ tri d
up_to b d h =
    let e : d - b + b ≡ d = omega arith in
    omega (arith, tri_rises (d - b) b, ap tri e)

pub pair_number_consecutive : PairNumberConsecutive
unfolding tri
pair_number_consecutive = record {
  first = refl;
  along = λ a b. omega arith;
  onward = λ b. omega (arith, tri_suc (b + 1), ap tri (add-suc b 1));
}

-- whoever the lower joints are, a higher joint further up means a higher number
pub pair_number_rises : PairNumberRises
unfolding tri
pair_number_rises a b c d h l = omega (arith, below_next a b h, up_to (suc b) d l)

pub pair_number_small : PairNumberSmall
unfolding tri
pair_number_small a b h l = omega (arith, below_next a b h, up_to (suc b) 128 l)

pub pair_number_injective : PairNumberInjective
pair_number_injective a b c d h k e = case (lt_ge b d)
    (λ l. absurd (omega (arith, pair_number_rises a b c d h l)))
    (λ l. case (lt_ge d b)
    (λ r. absurd (omega (arith, pair_number_rises c d a b k r)))
    (λ r. let s : b ≡ d = omega arith in (omega (arith, ap (λ (x : ℕ). x * (x - 1) / 2) s), s)))

-- among pairs that share the higher joint the number goes up with the lower one
pub pair_number_lower : (a c b : ℕ) → a ≤ c → pair_number a b ≤ pair_number c b
pair_number_lower a c b h = omega arith
