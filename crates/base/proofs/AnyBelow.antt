-- Laws of `any_below`.
use mathlib.Core.Path.{◌≡◌, refl, sym, ap, ◌∙◌}
use mathlib.Core.Bool.{Bool, true, false}
use Prim.Native.Nat.{ℕ, zero, suc, ◌+◌, ◌≤◌, ◌<◌}
use native.Mathlib.Numerals.{add-one}
use native.Mathlib.Omega.{arith}
use Rattle.base.specs.Below.{any_below}
use Rattle.base.proofs.Cases.{case, both_ways, eq_ne, below_suc}
use Rattle.base.proofs.Tests.{never, or_right}

pub any_true : (n : ℕ) (test : ℕ → Bool) → any_below n test ≡ true → (j : ℕ) × (j < n) × (test j ≡ true)
unfolding any_below
any_true zero test h = absurd (never _ h refl)
any_true (suc i) test h =
    case (both_ways (any_below i test))
    (λ e. let r : (j : ℕ) × (j < i) × (test j ≡ true) = any_true i test e in (r.0, omega arith, r.2))
    (λ e. (i, omega arith, rw e at h))

pub any_none : (n : ℕ) (test : ℕ → Bool) → any_below n test ≡ false → (j : ℕ) → j < n → test j ≡ false
unfolding any_below
any_none zero test h j l = absurd (omega arith)
any_none (suc i) test h j l =
    case (both_ways (any_below i test))
    (λ e. absurd (never _ refl (rw e at h)))
    (λ e. case (below_suc l) (λ m. ap test m ∙ (rw e at h)) (λ m. any_none i test e j m))

pub none_any : (n : ℕ) (test : ℕ → Bool) → ((i : ℕ) → i < n → test i ≡ false) → any_below n test ≡ false
unfolding any_below
none_any zero test h = refl
none_any (suc n) test h = rw (none_any n test (λ i l. h i (omega arith))) (h n (omega arith))

-- tests that agree below n
pub any_agree : (n : ℕ) (p q : ℕ → Bool) → ((i : ℕ) → i < n → p i ≡ q i) → any_below n p ≡ any_below n q
unfolding any_below
any_agree zero p q h = refl
any_agree (suc n) p q h = rw (any_agree n p q (λ i l. h i (omega arith)), h n (omega arith)) refl

-- IN A LOOP that leaves at the first hit
pub any_hit : (n : ℕ) (test : ℕ → Bool) (i : ℕ) → i < n → test i ≡ true → any_below n test ≡ true
unfolding any_below
any_hit zero test i l h = absurd (omega arith)
any_hit (suc n) test i l h =
    case (eq_ne i n) (λ e. or_right (any_below n test) (test n) (rw (← e) h)) (λ ne. rw (any_hit n test i (omega arith) h))

pub any_next : (n : ℕ) (test : ℕ → Bool) → any_below n test ≡ false → test n ≡ false → any_below (n + 1) test ≡ false
unfolding any_below
any_next n test h e = rw (add-one, h) e

-- the loop has passed every number below n
pub any_end : (i n : ℕ) (test : ℕ → Bool) → any_below i test ≡ false → i ≤ n → n ≤ i → false ≡ any_below n test
any_end i n test h l g = let e : i ≡ n = omega arith in sym (rw e at h)
