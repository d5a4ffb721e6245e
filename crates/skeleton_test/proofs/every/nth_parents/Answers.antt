use Rattle.std.proofs.Common.{◌≡◌, ℕ, ◌<◌, List, length, set, replicate, ap, ◌∙◌, inl, inr, arith, length-set, get_or-set_other, get_or-set_same}
use lib.ListN.{get_or-replicate, length-replicate, get_or-eq_default}
use Rattle.base.proofs.Cases.{case, eq_ne, lt_ge}
use Rattle.parents.specs.Claims.{Lower}
use Rattle.skeleton_test.proofs.every.nth_parents.Goals as goal
use Rattle.skeleton_test.proofs.every.nth_parents.Goals.{else-digit-i, then-digit-i}

all_roots : (n : ℕ) → Lower (replicate n 255)
all_roots n i =
    case (lt_ge i n)
    (λ l. inl (get_or-replicate n i 255 255 l))
    (λ l. inl (get_or-eq_default (replicate n 255) 255 (rw (length-replicate {A = ℕ} n 255) l)))

-- with one parent more, which is lower
still_lower : {qs : List ℕ} (ps : List ℕ) (i p : ℕ) → qs ≡ set ps i p → length ps ≡ 8 → Lower ps → p < i → i < 8 → (length qs ≡ 8) × Lower qs
still_lower ps i p e long lower h l = rw e (length-set ps i p ∙ long, lower_set)
  where
    lower_set : Lower (set ps i p)
    lower_set j =
        case (eq_ne j i)
        (λ same. inr (rw (same, get_or-set_same ps i p 255 (rw long l)) h))
        (λ other. rw (get_or-set_other ps i j p 255 other) (lower j))

pub loop-i-preserved : goal.loop-i-preserved
loop-i-preserved c =
    let at = c.loop-i in
    let (long, lower) = at.invariant in
    (elim c.if-digit-i.branch [
      | then-digit-i w ↦ let (more, still) = still_lower at.parents at.i _ w.parents-is long lower w.if-digit-i.true (omega arith) in (more, still)
      | else-digit-i w ↦ (ap length w.parents-is ∙ long, rw w.parents-is lower)
    ])
