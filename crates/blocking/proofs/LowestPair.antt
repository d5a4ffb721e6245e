-- blocking_pair is none exactly if no pair blocks, and else the lowest number of a pair that does.
use mathlib.Core.Path.{◌≡◌, refl, ap, sym, ◌∙◌}
use mathlib.Core.Bool.{Bool, true}
use mathlib.Core.List.{List}
use Rattle.std.specs.Prelude.{Option, Some, None, IfSome, IsSomeAnd}
use Prim.Native.Nat.{ℕ, ◌≤◌, ◌<◌}
use native.Mathlib.Omega.{arith}
use lib.Dec.{ltb}
use borrow.Author.Tests.{lt-ltb, le-ltb, ltb-true}
use Rattle.sheet.specs.Square.{at}
use Rattle.base.specs.Below.{lowest}
use Rattle.base.proofs.Cases.{case, both_ways, lt_ge, eq_ne, unlike}
use Rattle.base.proofs.Lowest.{lowest_passes, lowest_below, some_passes}
use Rattle.matching.specs.Matchings.{partner, pair_number}
use Rattle.matching.proofs.PairNumbers.{pair_number_rises, pair_number_lower}
use Rattle.blocking.specs.Blocking.{blocks, blocker, pair_below, blocking_pair}
use Rattle.blocking.specs.Plain.{Blocks, LowestBlocking}
use Rattle.blocking.specs.Claims.{BlockingPairNone, BlockingPairLowest}
use Rattle.blocking.proofs.BlockingTest.{blocks_means}

-- the number that an answer has
number : Option ℕ → ℕ
number None = 0
number (Some k) = k

abbrev is_some : Option ℕ → ℕ
is_some None = 0
is_some (Some k) = 1

module _ (n : ℕ) (t : List (List ℕ)) (m : List ℕ) where
  -- the joints with a blocker, and the lowest of them
  abbrev pub has_blocker : ℕ → Bool
  has_blocker b = ltb (blocker t m b) b

  abbrev pub higher : ℕ
  higher = lowest n has_blocker

  -- the blocker blocks, and nobody lower does
  blocker_blocks : (b : ℕ) → blocker t m b < b → Blocks (at t) (partner m) (blocker t m b) b
  unfolding blocker
  blocker_blocks b l = (blocks_means t m (blocker t m b) b).0 (lowest_passes b (λ a. blocks t m a b) l)

  blocker_lowest : (a b : ℕ) → Blocks (at t) (partner m) a b → blocker t m b ≤ a
  unfolding blocker
  blocker_lowest a b h = lowest_below b (λ a. blocks t m a b) a ((blocks_means t m a b).1 h)

  -- the higher joint of a blocking pair has a blocker
  pair_seen : (a b : ℕ) → a < b → Blocks (at t) (partner m) a b → has_blocker b ≡ true
  pair_seen a b l h = let low = blocker_lowest a b h in lt-ltb (blocker t m b) b (omega arith)

  found : higher < n → LowestBlocking n (at t) (partner m) (pair_number (blocker t m higher) higher)
  found in-range =
      let low : blocker t m higher < higher = ltb-true _ _ (lowest_passes n has_blocker in-range) in
      record {
        lower = blocker t m higher;
        higher = higher;
        below = low;
        joint = in-range;
        blocking = blocker_blocks higher low;
        numbered = refl;
        lowest = λ a b l u h.
            let first : higher ≤ b = lowest_below n has_blocker b (pair_seen a b l h) in
            case (eq_ne higher b)
            (λ e.
            let here : Blocks (at t) (partner m) a higher = rw e h in
            rw (← e) (pair_number_lower (blocker t m higher) a higher (blocker_lowest a higher here)))
            (λ ne.
            let rise : pair_number (blocker t m higher) higher < pair_number a b = pair_number_rises _ _ a b low (omega arith) in
            omega arith);
      }

  number_there : (b : ℕ) → has_blocker b ≡ true → pair_below t m b ≡ Some (pair_number (blocker t m b) b)
  number_there b h = rw h refl

  number_seen : (b k : ℕ) → pair_below t m b ≡ Some k → has_blocker b ≡ true
  number_seen b k e = case (both_ways (has_blocker b)) (λ h. h) (λ h. absurd (unlike (ap is_some (rw h at e))))

  pub pair_some : higher < n → blocking_pair n t m ≡ Some (pair_number (blocker t m higher) higher)
  unfolding blocking_pair
  pair_some l = rw (lt-ltb _ _ l)

  pub pair_none : n ≤ higher → blocking_pair n t m ≡ None
  unfolding blocking_pair
  pair_none l = rw (le-ltb _ _ l)

  -- as a chain from below tells: the first joint with a number, or none
  pair_told : (r : Option ℕ) → (r ≡ None → (b : ℕ) → b < n → pair_below t m b ≡ None)
      → ((k : ℕ) → r ≡ Some k → (b : ℕ) × (b < n) × (pair_below t m b ≡ Some k) × ((j : ℕ) → j < b → pair_below t m j ≡ None))
      → r ≡ blocking_pair n t m
  pair_told None none first = case (lt_ge higher n)
      (λ l. absurd (unlike (sym (ap is_some (none refl higher l)) ∙ ap is_some (number_there higher (lowest_passes n has_blocker l)))))
      (λ l. sym (pair_none l))
  pair_told (Some k) none first =
      let f : (b : ℕ) × (b < n) × (pair_below t m b ≡ Some k) × ((j : ℕ) → j < b → pair_below t m j ≡ None) = first k refl in
      let b : ℕ = f.0 in
      let has : has_blocker b ≡ true = number_seen b k f.2 in
      let low : higher ≤ b = lowest_below n has_blocker b has in
      let l : higher < n = omega (arith, f.1) in
      let e : higher ≡ b = case (lt_ge higher b)
      (λ m. absurd (unlike (sym (ap is_some (f.3 higher m)) ∙ ap is_some (number_there higher (lowest_passes n has_blocker l)))))
      (λ g. omega arith) in
      sym f.2 ∙ number_there b has ∙ rw (← e) (sym (pair_some l))

  -- .. by the chain's run, which had the joint b at the place `at_place b`
  module _ (at_place : ℕ → Option ℕ) (len : ℕ) (r : Option ℕ) where
    pub pair_run : (r ≡ None → (b : ℕ) → b < n → at_place b ≡ Some b) → (r ≡ None → (b : ℕ) → b < n → IfSome (at_place b) (λ x. pair_below t m x ≡ None))
        → ((j : ℕ) → j < len → at_place j ≡ Some j) → len ≤ n
        → ((k : ℕ) → r ≡ Some k → (b : ℕ) × (b < len) × IsSomeAnd (at_place b) (λ x. pair_below t m x ≡ Some k)
        × ((j : ℕ) → j < b → IsSomeAnd (at_place j) (λ x. pair_below t m x ≡ None)))
        → r ≡ blocking_pair n t m
    pair_run none_at none there few first = pair_told r
        (λ e b l. no_pair (at_place b) b (none_at e b l) (none e b l))
        (λ k e.
        let f : (b : ℕ) × (b < len) × IsSomeAnd (at_place b) (λ x. pair_below t m x ≡ Some k)
        × ((j : ℕ) → j < b → IsSomeAnd (at_place j) (λ x. pair_below t m x ≡ None)) = first k e in (
          f.0,
          omega (arith, f.1),
          seen (at_place f.0) f.0 (there f.0 f.1) f.2,
          λ j l. seen (at_place j) j (there j (omega (arith, f.1))) (f.3 j l),
        ))
      where
        no_pair : (f : Option ℕ) (b : ℕ) → f ≡ Some b → IfSome f (λ x. pair_below t m x ≡ None) → pair_below t m b ≡ None
        no_pair f b e h = rw e at h

        seen : {v : Option ℕ} (f : Option ℕ) (b : ℕ) → f ≡ Some b → IsSomeAnd f (λ x. pair_below t m x ≡ v) → pair_below t m b ≡ v
        seen f b e h = rw e at h

  unblocked : n ≤ higher → (a b : ℕ) → a < b → b < n → Blocks (at t) (partner m) a b → ⊥
  unblocked l a b s u h = let low : higher < n = some_passes n has_blocker b u (pair_seen a b s h) in omega arith

-- two lowest numbers are the same
only_one : {n : ℕ} {band : ℕ → ℕ → ℕ} {partner : ℕ → ℕ} {j k : ℕ} → LowestBlocking n band partner j → LowestBlocking n band partner k → j ≤ k
only_one v w = let l = v.lowest _ _ w.below w.joint w.blocking in omega (arith, w.numbered)

pub blocking_pair_none : BlockingPairNone
blocking_pair_none n t m = (
  λ q. case (lt_ge (higher n t m) n)
      (λ l. absurd (unlike (sym (ap is_some q) ∙ ap is_some (pair_some n t m l))))
      (unblocked n t m),
  λ h. case (lt_ge (higher n t m) n)
      (λ l. let w = found n t m l in absurd (h w.lower w.higher w.below w.joint w.blocking))
      (pair_none n t m),
)

pub blocking_pair_lowest : BlockingPairLowest
unfolding number
blocking_pair_lowest n t m k = (
  λ q. case (lt_ge (higher n t m) n)
      (λ l. let e : pair_number (blocker t m (higher n t m)) (higher n t m) ≡ k = sym (ap number (pair_some n t m l)) ∙ ap number q in rw e at (found n t m l))
      (λ l. absurd (unlike (sym (ap is_some (pair_none n t m l)) ∙ ap is_some q))),
  λ w. case (lt_ge (higher n t m) n)
      (λ l.
      let v = found n t m l in
      let e : pair_number (blocker t m (higher n t m)) (higher n t m) ≡ k = omega (arith, only_one v w, only_one w v) in
      pair_some n t m l ∙ ap Some e)
      (λ l. absurd (unblocked n t m l w.lower w.higher w.below w.joint w.blocking)),
)
