-- Lemma 3.2: where nobody waits, each joint has a first joint, alone in the best band, whose last joint it is.
use mathlib.Core.Path.{◌≡◌, sym, ◌∙◌}
use mathlib.Core.Logic.{◌⊎◌, inl, inr}
use Prim.Native.Nat.{ℕ, ◌≤◌, ◌<◌}
use native.Mathlib.Omega.{arith}
use Rattle.base.proofs.Cases.{case, lt_ge}
use Rattle.roommates.proofs.Basics.{Bands, PhaseEnd}
use Rattle.roommates.proofs.Proposals.{State, Invariant, Ended}
use Rattle.roommates.proofs.Pigeonhole.{pigeonhole}

-- the number that a proof of 0 < x gives, or 0
given : {x : ℕ} → (0 < x → ℕ) → (0 < x) ⊎ (x ≤ 0) → ℕ
given f (inl h) = f h
given f (inr h) = 0

given_is : {x : ℕ} (Q : ℕ → Type 0) (f : 0 < x → ℕ) → ((h : 0 < x) → Q (f h)) → 0 < x → (d : (0 < x) ⊎ (x ≤ 0)) → Q (given f d)
unfolding given
given_is Q f all h (inl g) = all g
given_is Q f all h (inr g) = absurd (omega arith)

-- f takes each joint to one in the best band of its list
module _ {T₀ : Bands} {w : State} (n : ℕ) (inv : Invariant T₀ w) (ended : Ended w)
    (inside : (a b : ℕ) → 0 < w.lists a b → a < n)
    (f : ℕ → ℕ) (first-best : (p q : ℕ) → 0 < w.lists p q → (0 < w.lists p (f p)) × (w.lists p (f p) ≤ w.lists p q)) where
  -- p's list is not empty
  abbrev Has : ℕ → Type 0
  Has p = 0 < w.lists p (f p)

  first_stands : (p : ℕ) → Has p → w.Stands p (f p)
  first_stands p h = ended p (f p) h λ r hr. (first-best p r hr).1

  first_has : (p : ℕ) → Has p → Has (f p)
  first_has p h = (first-best (f p) p (inv.below.both p (f p) h)).0

  first_one : (a b : ℕ) → Has a → Has b → f a ≡ f b → a ≡ b
  first_one a b ha hb e = inv.one_stands b a (f b) (first_stands b hb) (rw e at (first_stands a ha))

  -- by the pigeonhole lemma each joint whose list is not empty is somebody's first
  onto : (p : ℕ) → Has p → (b : ℕ) × (Has b × (f b ≡ p))
  onto = pigeonhole n Has f (λ a h. inside a (f a) h) first_has first_one

  -- a second one in the best band would be somebody else's first, and hold two proposals
  first_alone : (p q : ℕ) → 0 < w.lists p q → (q ≡ f p) ⊎ (w.lists p (f p) < w.lists p q)
  first_alone p q h = case (lt_ge (w.lists p (f p)) (w.lists p q)) inr
      λ l.
      let st : w.Stands p q = ended p q h λ r hr. let m = (first-best p r hr).1 in omega arith in
      let (b, (hb, e)) = onto q (first-best q p (inv.below.both p q h)).0 in
      let same : b ≡ p = inv.one_stands p b q st (rw e at (first_stands b hb)) in
      inl (sym e ∙ rw same)

  g : ℕ → ℕ
  g p = given (λ h. (onto p h).0) (lt_ge 0 (w.lists p (f p)))

  -- whose first p is
  last_is : (p : ℕ) → Has p → Has (g p) × (f (g p) ≡ p)
  unfolding g
  last_is p h = given_is (λ b. Has b × (f b ≡ p)) (λ k. (onto p k).0) (λ k. (onto p k).1) h (lt_ge 0 (w.lists p (f p)))

  last_stands : (p : ℕ) → Has p → w.Stands (g p) p
  last_stands p h = let (has, e) = last_is p h in rw e at (first_stands (g p) has)

  has : (p q : ℕ) → 0 < w.lists p q → Has p
  has p q h = (first-best p q h).0

  pub Heads : PhaseEnd T₀ w.lists w.Received
  Heads = record {
    below = inv.below;
    struck = inv.struck;
    first = f;
    last = g;
    has_first = has;
    has_last = λ p q h. inv.below.both (g p) p (inv.listed (g p) p (last_stands p (has p q h)));
    best = first_alone;
    worst = λ p q h. inv.holder_worst (g p) p (last_stands p (has p q h)) q h;
    last_first = λ p q h.
        let hp = has p q h in
        let (hl, e) = last_is (f p) (first_has p hp) in
        first_one (g (f p)) p hl hp e;
    first_last = λ p q h. (last_is p (has p q h)).1;
    was_listed = λ q h. let r = inv.received q h in (r.0, r.1);
  }
