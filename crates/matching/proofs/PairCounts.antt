-- How many joints partner bytes pair: all but the unpaired ones, and in a matching two to a pair.
use mathlib.Core.Path.{◌≡◌, refl, ap, sym, ◌∙◌}
use mathlib.Core.Bool.{Bool, true, false, not, cond, ◌&&◌}
use mathlib.Core.List.{List}
use Prim.Native.Nat.{ℕ, ◌*◌, ◌≤◌, ◌<◌}
use native.Mathlib.Omega.{arith}
use lib.Dec.{eqb, ltb}
use lib.ListN.{length, get_or, take}
use Rattle.std.specs.List.{count_by}
use Rattle.std.proofs.Math.Seq.{take-length}
use borrow.Author.Tests.{eqb-true, ltb-true, eq-eqb, ne_eqb, lt-ltb, le-ltb}
use Rattle.sheet.specs.Square.{at, SquarePromise}
use Rattle.base.specs.Below.{count_below, sum_below}
use Rattle.base.proofs.Cases.{case, lt_ge}
use Rattle.base.proofs.Tests.{and_true, never, not_so}
use Rattle.base.proofs.Chains.{count_taken}
use Rattle.std.proofs.lemmas.List.{get_or_default}
use Rattle.base.proofs.CountBelow.{count_same, ones, count_sum, count_most, count_grows, count_rest, count_one, counted, two_counted, Two}
use Rattle.base.proofs.Faults.{when_most}
use Rattle.base.proofs.SumBelow.{sum_same, sum_even, half_sum}
use Rattle.matching.specs.Matchings.{alone, partner, is_alone, paired_joints, alone_count}
use Rattle.matching.specs.Plain.{Paired, Matching}
use Rattle.matching.specs.Claims.{PairedOrAlone, TwoToAPair, OneHigher}
use Rattle.matching.proofs.MatchingTest.{is_matching_means}

-- joint by joint
abbrev paired_below : ℕ → List ℕ → ℕ
paired_below i m = count_below i (λ a. not (is_alone m a))

-- as a chain over the bytes counts
pub paired_by : (m : List ℕ) → count_by (λ p. not (eqb p alone)) m ≡ paired_joints m
unfolding paired_joints
paired_by m =
    let n = length m in
    let all : count_by (λ p. not (eqb p alone)) (take n m) ≡ count_below n (λ a. not (eqb (get_or m a 0) alone)) = count_taken n _ m (omega arith) in
    let there = λ (a : ℕ) (l : a < n). ap (λ p. not (eqb p alone)) (get_or_default m a 0 alone l) in
    rw take-length at all ∙ count_same n _ _ there

pub paired_few : (m : List ℕ) → paired_joints m ≤ length m
unfolding paired_joints
paired_few m = count_most (length m) (λ a. not (is_alone m a))

pub paired_or_alone : PairedOrAlone
unfolding paired_joints alone_count
paired_or_alone m = let rest = count_rest (length m) (is_alone m) in omega arith

alike : (p q : Bool) → (p ≡ true → q ≡ true) → (q ≡ true → p ≡ true) → p ≡ q
alike true q f g = sym (f refl)
alike false q f g = sym (not_so q (λ e. never false (g e) refl))

module _ (n : ℕ) (t : List (List ℕ)) (m : List ℕ) (sq : SquarePromise n t) (matching : Matching n (at t) (partner m)) where
  -- are a and b paired together?
  together : ℕ → ℕ → Bool
  together a b = ltb a n && (ltb b n && eqb (partner m a) b)

  Together : ℕ → ℕ → Type 0
  Together a b = (a < n) × (b < n) × (partner m a ≡ b)

  are_together : (a b : ℕ) → together a b ≡ true → Together a b
  unfolding together Together
  are_together a b h =
      let r : (ltb a n ≡ true) × ((ltb b n && eqb (partner m a) b) ≡ true) = and_true _ _ h in
      let s : (ltb b n ≡ true) × (eqb (partner m a) b ≡ true) = and_true _ _ r.1 in
      (ltb-true a n r.0, ltb-true b n s.0, eqb-true _ _ s.1)

  together_passes : (a b : ℕ) → Together a b → together a b ≡ true
  unfolding together Together
  together_passes a b h = rw (lt-ltb a n h.0, lt-ltb b n h.1, eq-eqb (partner m a) b h.2)

  paired : (a b : ℕ) → Together a b → Paired n (at t) (partner m) a
  unfolding Together
  paired a b h =
      let few : n ≤ 128 = sq.few_joints in
      case (matching.placed a h.0) (λ u. absurd (omega (arith, h.1, h.2))) (λ p. p)

  back : (a b : ℕ) → Together a b → Together b a
  unfolding Together
  back a b h = (h.1, h.0, rw h.2 at (paired a b h).back)

  across : (a b : ℕ) → together a b ≡ together b a
  across a b = alike _ _
      (λ h. together_passes b a (back a b (are_together a b h)))
      (λ h. together_passes a b (back b a (are_together b a h)))

  not_itself : (a : ℕ) → together a a ≡ false
  unfolding Together
  not_itself a = not_so _ λ h.
      let g : Together a a = are_together a a h in
      let some : 0 < at t a a = rw g.2 at (paired a a g).listed in
      let none : at t a a ≡ 0 = sq.not_itself a in
      omega arith

  -- a paired joint is together with one joint, an unpaired one with none
  partners : (a : ℕ) → a < n → count_below n (together a) ≡ ones (λ a. not (is_alone m a)) a
  unfolding Together
  partners a la = case (matching.placed a la)
      (λ u.
      let none : count_below n (together a) ≡ 0 = case (lt_ge 0 (count_below n (together a)))
      (λ some.
      let j : (j : ℕ) × (j < n) × (together a j ≡ true) = counted n (together a) some in
      let h : Together a j.0 = are_together a j.0 j.2 in
      let few : n ≤ 128 = sq.few_joints in
      absurd (omega (arith, h.1, h.2)))
      (λ z. omega arith) in
      none ∙ rw (eq-eqb (partner m a) 255 u))
      (λ p.
      let few : n ≤ 128 = sq.few_joints in
      let joint : partner m a < n = p.with_joint in
      let some : 1 ≤ count_below n (together a) =
      count_one n (together a) (partner m a) joint (together_passes a (partner m a) (la, joint, refl)) in
      let one : count_below n (together a) ≤ 1 = case (lt_ge 1 (count_below n (together a)))
      (λ two.
      let r : Two n (together a) = two_counted n (together a) two in
      let h : Together a r.0 = are_together a r.0 r.5 in
      let k : Together a r.1 = are_together a r.1 r.6 in
      absurd (r.4 (sym h.2 ∙ k.2)))
      (λ z. z) in
      let e : count_below n (together a) ≡ 1 = omega arith in
      e ∙ rw (ne_eqb (partner m a) 255 (omega arith)))

  even : paired_below n m ≡ 2 * half_sum n (λ a. ones (together a))
  even =
      count_sum n (λ a. not (is_alone m a))
      ∙ sum_same n _ _ (λ a la. sym (partners a la) ∙ count_sum n (together a))
      ∙ sum_even n (λ a. ones (together a)) (λ a b. ap (λ (c : Bool). cond c 1 0) (across a b)) (λ a. ap (λ (c : Bool). cond c 1 0) (not_itself a))

  -- b is together with one joint below it, if its partner is lower, and else with none
  lower_partner : (b : ℕ) → b < n → sum_below b (ones (together b)) ≡ ones (λ b. ltb (partner m b) b) b
  unfolding Together
  lower_partner b lb =
      sym (count_sum b (together b)) ∙ case (lt_ge (partner m b) b)
      (λ l.
      let some : 1 ≤ count_below b (together b) = count_one b (together b) (partner m b) l (together_passes b (partner m b) (lb, omega arith, refl)) in
      let most : count_below b (together b) ≤ count_below n (together b) = count_grows n b (together b) (omega arith) in
      let one = partners b lb in
      let paired : ones (λ a. not (is_alone m a)) b ≤ 1 = when_most (not (is_alone m b)) 1 1 (omega arith) in
      let e : count_below b (together b) ≡ 1 = omega arith in
      e ∙ rw (lt-ltb (partner m b) b l))
      (λ l.
      let none : count_below b (together b) ≡ 0 = case (lt_ge 0 (count_below b (together b)))
      (λ some.
      let j : (j : ℕ) × (j < b) × (together b j ≡ true) = counted b (together b) some in
      let h : Together b j.0 = are_together b j.0 j.2 in
      absurd (omega (arith, j.1, h.2)))
      (λ z. omega arith) in
      none ∙ rw (le-ltb (partner m b) b l))

  higher_joints : half_sum n (λ a. ones (together a)) ≡ count_below n (λ b. ltb (partner m b) b)
  unfolding half_sum
  higher_joints = sum_same n _ _ lower_partner ∙ sym (count_sum n (λ b. ltb (partner m b) b))

pub two_to_a_pair : TwoToAPair
unfolding paired_joints
two_to_a_pair n t m sq h =
    let w : (length m ≡ n) × Matching n (at t) (partner m) = (is_matching_means n t m).0 h in
    let e : paired_below (length m) m ≡ paired_below n m = ap (λ (i : ℕ). paired_below i m) w.0 in
    omega (arith, even n t m sq w.1)

pub one_higher : OneHigher
unfolding paired_joints
one_higher n t m sq h =
    let w : (length m ≡ n) × Matching n (at t) (partner m) = (is_matching_means n t m).0 h in
    let e : paired_below (length m) m ≡ paired_below n m = ap (λ (i : ℕ). paired_below i m) w.0 in
    omega (arith, e, even n t m sq w.1, higher_joints n t m sq w.1)
