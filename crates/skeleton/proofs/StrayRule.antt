-- Which pairs do not follow, and the lowest of them.
use mathlib.Core.Path.{◌≡◌, refl, ap, ◌∙◌}
use mathlib.Core.Bool.{true, false}
use mathlib.Core.List.{List}
use Prim.Native.Nat.{ℕ, ◌<◌}
use native.Mathlib.Omega.{arith}
use lib.Dec.{ltb}
use lib.ListN.{length}
use Rattle.base.proofs.Cases.{case, lt_ge, eq_ne}
use Rattle.base.proofs.CountBelow.{counted, count_one, count_parted}
use Rattle.base.proofs.Lowest.{lowest_below}
use Rattle.base.proofs.Tests.{never, not_so}
use Rattle.parents.specs.Parents.{parent_of}
use Rattle.matching.specs.Matchings.{partner}
use Rattle.matching.proofs.MatchingTest.{as_many}
use Rattle.matching.proofs.PairCounts.{one_higher}
use Rattle.matching.proofs.PairNumbers.{pair_number_rises}
use Rattle.skeleton.specs.Following.{follows, is_stray, lowest_stray}
use Rattle.skeleton.specs.Plain.{Stray}
use Rattle.skeleton.specs.Claims.{StraysNone, StraysCounted, StraysLowest}
use Rattle.skeleton.proofs.FollowLaws.{follows_means, stray_is, is_stray_lem, stray_found}

module _ (ps m : List ℕ) where
  -- the test passes the higher joints of such pairs
  is_pair : (b : ℕ) → b < length m → is_stray ps m b ≡ true → Stray (length m) (parent_of ps) (partner m) (partner m b) b
  is_pair b l h =
      let r = stray_is ps m b h in
      record { below = r.0; joint = l; paired = refl; astray = λ f. never _ ((follows_means ps m (partner m b) b).1 f) r.1 }

  pair_passes : (a b : ℕ) → Stray (length m) (parent_of ps) (partner m) a b → is_stray ps m b ≡ true
  pair_passes a b s =
      let e = s.paired in
      let low : partner m b < b = omega (arith, e, s.below) in
      let other : follows ps m a b ≡ false = not_so (follows ps m a b) (λ t. s.astray ((follows_means ps m a b).0 t)) in
      is_stray_lem ps m b low (ap (λ (x : ℕ). follows ps m x b) e ∙ other)

pub strays_none : StraysNone
strays_none ps m = (
  λ z a b s. let one = count_one (length m) (is_stray ps m) b s.joint (pair_passes ps m a b s) in omega arith,
  λ none. case (lt_ge 0 _)
      (λ some.
      let j : (j : ℕ) × (j < length m) × (is_stray ps m j ≡ true) = counted (length m) (is_stray ps m) some in
      absurd (none _ j.0 (is_pair ps m j.0 j.1 j.2)))
      (λ z. omega arith),
)

pub strays_counted : StraysCounted
unfolding is_stray
strays_counted n t ps m promise matching =
    let higher = one_higher n t m promise matching in
    let all = count_parted n (λ b. ltb (partner m b) b) (λ b. follows ps m (partner m b) b) in
    rw (as_many n t m matching) (omega (arith, higher, all))

pub strays_lowest : StraysLowest
strays_lowest ps m some =
    let (within, passes) = stray_found ps m some in
    let low : ℕ = lowest_stray ps m in
    let first = is_pair ps m low within passes in
    record {
      lower = partner m low;
      higher = low;
      stray = first;
      numbered = refl;
      lowest = λ a b s.
          let up = lowest_below (length m) (is_stray ps m) b (pair_passes ps m a b s) in
          case (eq_ne low b)
          (λ e. let same : partner m low ≡ a = ap (partner m) e ∙ s.paired in rw (e, s.paired) (omega arith))
          (λ ne. let rise = pair_number_rises (partner m low) low a b first.below (omega arith) in omega arith);
    }
