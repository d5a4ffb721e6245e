-- The test for super-stability means the plain statement, over an accepted sheet's square.
use mathlib.Core.Path.{◌≡◌, refl}
use mathlib.Core.Bool.{true, false≢true}
use mathlib.Core.Logic.{◌⊎◌, inl, inr, ◌↔◌}
use mathlib.Core.List.{List}
use Rattle.std.specs.Prelude.{Option, Some, None}
use Prim.Native.Nat.{ℕ, ◌≤◌, ◌<◌}
use native.Mathlib.Omega.{arith}
use lib.ListN.{length}
use Rattle.sheet.specs.Square.{at}
use Rattle.matching.specs.Matchings.{partner, is_matching}
use Rattle.matching.specs.Plain.{Matching}
use Rattle.blocking.specs.Blocking.{blocking_pair, is_none, is_super_stable}
use Rattle.blocking.specs.Plain.{Welcomes, Blocks, Prefers, SuperStable}
use Rattle.blocking.specs.Claims.{IsSuperStableMeans}
use Rattle.base.proofs.Cases.{case, lt_ge, eq_ne}
use Rattle.base.proofs.Tests.{and_true}
use Rattle.matching.proofs.MatchingTest.{is_matching_means}
use Rattle.blocking.proofs.LowestPair.{blocking_pair_none}

none_is : (o : Option ℕ) → is_none o ≡ true → o ≡ None
none_is None h = refl
none_is (Some k) h = absurd (false≢true h)

module _ (n : ℕ) (band : ℕ → ℕ → ℕ) (partner : ℕ → ℕ) (few : n ≤ 128) where
  -- in a matching, a joint welcomes another or strictly prefers its partner
  welcomes_or_prefers : Matching n band partner → (a b : ℕ) → a < n
      → Welcomes band partner a b ⊎ Prefers n band partner a b
  welcomes_or_prefers w a b l = case (w.placed a l)
      (λ u. inl (inl u))
      (λ p. case (lt_ge (band a (partner a)) (band a b)) (λ s. inr (p.with_joint, s)) (λ s. inl (inr s)))

  -- and never both
  not_both : (a b : ℕ) → Welcomes band partner a b → Prefers n band partner a b → ⊥
  not_both a b w p = case w (λ u. let i : partner a < n = p.0 in omega arith) (λ s. let i : band a (partner a) < band a b = p.1 in omega arith)

  paired_back : Matching n band partner → (a b : ℕ) → a < n → b < n → partner a ≡ b → partner b ≡ a
  paired_back w a b l k e = case (w.placed a l)
      (λ u. absurd (omega arith))
      (λ p. rw e at p.back)

  unblocked : Matching n band partner → (a b : ℕ) → a < n → b < n → 0 < band a b → 0 < band b a
      → (Blocks band partner a b → ⊥)
      → (partner a ≡ b) ⊎ (Prefers n band partner a b ⊎ Prefers n band partner b a)
  unblocked w a b l k i j no_block = case (eq_ne (partner a) b)
      inl
      (λ apart. inr (case (welcomes_or_prefers w a b l)
      (λ u. case (welcomes_or_prefers w b a k)
      (λ v. absurd (no_block (record { lists = i; listed = j; apart = apart; wants = u; wanted = v })))
      inr)
      inl))

  swapped : (a b : ℕ) → (partner a ≡ b → partner b ≡ a)
      → (partner a ≡ b) ⊎ (Prefers n band partner a b ⊎ Prefers n band partner b a)
      → (partner b ≡ a) ⊎ (Prefers n band partner b a ⊎ Prefers n band partner a b)
  swapped a b back h = case h (λ e. inl (back e)) (λ r. inr (case r inr inl))

  -- no pair blocks a matching exactly if it is super-stable
  stable : Matching n band partner → ((a : ℕ) → band a a ≡ 0)
      → ((a b : ℕ) → a < b → b < n → Blocks band partner a b → ⊥) → SuperStable n band partner
  stable w itself none-block = record {
    matching = w;
    unblocked = λ a b l k i j. case (lt_ge a b)
        (λ s. unblocked w a b l k i j (none-block a b s k))
        (λ s. case (eq_ne a b)
        (λ e. let z : band a b ≡ 0 = rw (← e) (itself a) in absurd (omega arith))
        (λ ne. swapped b a (paired_back w b a k l) (unblocked w b a k l j i (none-block b a (omega arith) l))));
  }

  unblockable : SuperStable n band partner → (a b : ℕ) → a < b → b < n → Blocks band partner a b → ⊥
  unblockable w a b s k h = case (w.unblocked a b (omega arith) k h.lists h.listed)
      h.apart
      (λ r. case r (not_both a b h.wants) (not_both b a h.wanted))

pub super_stable_parts : (n : ℕ) (t : List (List ℕ)) (m : List ℕ)
    → is_super_stable n t m ≡ true ↔ (is_matching n t m ≡ true) × (blocking_pair n t m ≡ None)
unfolding is_super_stable
super_stable_parts n t m = (
  λ h. let both : (is_matching n t m ≡ true) × (is_none (blocking_pair n t m) ≡ true) = and_true _ _ h in (both.0, none_is _ both.1),
  λ h. rw (h.0, h.1),
)

-- is_super_stable passes exactly the pairings of n bytes that are super-stable
pub is_super_stable_means : IsSuperStableMeans
is_super_stable_means n t m sq = (
  λ h.
      let both : (is_matching n t m ≡ true) × (blocking_pair n t m ≡ None) = (super_stable_parts n t m).0 h in
      let w : (length m ≡ n) × Matching n (at t) (partner m) = (is_matching_means n t m).0 both.0 in
      (w.0, stable n (at t) (partner m) sq.few_joints w.1 sq.not_itself ((blocking_pair_none n t m).0 both.1)),
  λ h.
      let w : is_matching n t m ≡ true = (is_matching_means n t m).1 (h.0, h.1.matching) in
      let q : blocking_pair n t m ≡ None =
      (blocking_pair_none n t m).1 (unblockable n (at t) (partner m) sq.few_joints h.1) in
      (super_stable_parts n t m).1 (w, q),
)
