-- Lemma 3.7: where there is a super-stable matching, there is one on the table's lists.
use mathlib.Core.Path.{◌≡◌, sym, ◌∙◌, ap}
use mathlib.Core.Bool.{cond}
use mathlib.Core.Logic.{◌⊎◌, inl, inr, ⊎_map}
use Prim.Native.Nat.{ℕ, ◌≤◌, ◌<◌}
use native.Mathlib.Omega.{arith}
use lib.Dec.{ltb}
use borrow.Author.Tests.{lt-ltb, le-ltb}
use Rattle.base.proofs.Cases.{case, lt_ge}
use Rattle.roommates.proofs.Basics.{Bands, Stable, Prefers, On}
use Rattle.roommates.proofs.StrikesCompose.{was_there}
use Rattle.roommates.proofs.Tables.{Table, prefers}
use Rattle.roommates.proofs.OverAndLost.{Over, Lost, status, over_last, lost_first}

-- To the last of its list goes whoever finds it better than the partner, to the first whoever else lost the partner.
moved : (P T : Bands) (first last M : ℕ → ℕ) → ℕ → ℕ
moved P T first last M p =
    cond (ltb (T p (last p)) (P p (M p))) (last p) (cond (ltb 0 (T p (M p))) (M p) (cond (ltb 0 (P p (M p))) (first p) (M p)))

module _ (P T : Bands) (first last M : ℕ → ℕ) (p : ℕ) where
  moved_last : T p (last p) < P p (M p) → moved P T first last M p ≡ last p
  unfolding moved
  moved_last l = rw (lt-ltb _ _ l)

  moved_kept : P p (M p) ≤ T p (last p) → 0 < T p (M p) → moved P T first last M p ≡ M p
  unfolding moved
  moved_kept l k = rw (le-ltb _ _ l, lt-ltb _ _ k)

  moved_first : P p (M p) ≤ T p (last p) → T p (M p) ≡ 0 → 0 < P p (M p) → moved P T first last M p ≡ first p
  unfolding moved
  moved_first l k h = rw (le-ltb _ _ l, k, lt-ltb _ _ h)

  moved_alone : P p (M p) ≡ 0 → T p (M p) ≡ 0 → moved P T first last M p ≡ M p
  unfolding moved
  moved_alone h k = let l : P p (M p) ≤ T p (last p) = omega arith in rw (le-ltb _ _ l, h, k)

module _ {P T : Bands} {N : ℕ → Type 0} {M : ℕ → ℕ} (t : Table P N T) (st : Stable P M)
    (all : (p : ℕ) → N p → 0 < P p (M p)) (only : (p : ℕ) → 0 < P p (M p) → N p)
    (n : ℕ) (inside : (a b : ℕ) → 0 < P a b → a < n) where
  M' : ℕ → ℕ
  M' = moved P T t.first t.last M

  over_moved : (p : ℕ) → Over t M p → M' p ≡ t.last p
  unfolding M'
  over_moved p o = moved_last P T _ _ M p o

  lost_moved : (p : ℕ) → Lost t M p → M' p ≡ t.first p
  unfolding M'
  lost_moved p w = moved_first P T _ _ M p w.0 w.1 w.2

  held_moved : (p : ℕ) → 0 < T p (M p) → M' p ≡ M p
  unfolding M'
  held_moved p k =
      let b = t.below.kept p _ k in
      let w = t.worst p _ k in
      moved_kept P T _ _ M p (omega arith) k

  on_list : (p : ℕ) → N p → 0 < T p (M' p)
  on_list p Np =
      case (status t st all only p Np)
      (λ o. rw (over_moved p o) (t.has_last p Np))
      (λ s. case s
      (λ w. rw (lost_moved p w) (t.has_first p Np))
      (λ k. rw (held_moved p k) k))

  still_in : (p : ℕ) → 0 < P p (M' p) → N p
  unfolding M'
  still_in p l =
      case (lt_ge 0 (P p (M p)))
      (only p)
      (λ h. let k : T p (M p) ≡ 0 = case (lt_ge 0 (T p (M p)))
      (λ g. let b = t.below.kept p (M p) g in absurd (omega arith))
      (λ g. omega arith) in
      let z : P p (M p) ≡ 0 = omega arith in
      let e : P p (M' p) ≡ P p (M p) = ap (P p) (moved_alone P T _ _ M p z k) in
      absurd (omega arith))

  moved_back : (p : ℕ) → N p → M' (M' p) ≡ p
  moved_back p Np =
      case (status t st all only p Np)
      (λ o. rw (over_moved p o) (lost_moved _ (over_last t st all only p o) ∙ t.first_last p Np))
      (λ s. case s
      (λ w. rw (lost_moved p w) (over_moved _ (lost_first t st all only n inside p w) ∙ t.last_first p Np))
      (λ k. let b = st.back p (all p Np) in
      let h : 0 < T (M p) (M (M p)) = rw b (t.below.both _ _ k) in
      rw (held_moved p k) (held_moved (M p) h ∙ b)))

  moved_prefers : (p q : ℕ) → N p × (T p (t.last p) < P p q) → Prefers P M' p q
  moved_prefers p q w = prefers t M' p q (on_list p w.0) w.1

  -- the lost have their first
  lost_content : (p q : ℕ) → 0 < T p q → Lost t M p → (M' p ≡ q) ⊎ Prefers P M' p q
  lost_content p q l w =
      let e = lost_moved p w in
      let f : P p (M' p) ≡ P p (t.first p) = ap (P p) e in
      let h = t.has_first p (t.listed p q l) in
      let k = t.below.kept p _ h in
      let kq = t.below.kept p q l in
      case (t.best p q l)
      (λ g. inl (e ∙ sym g))
      (λ g. inr (omega arith, omega arith))

  -- and nobody else is worse off than before
  others_content : (p : ℕ) → N p → Lost t M p ⊎ ((q : ℕ) → Prefers P M p q → Prefers P M' p q)
  others_content p Np =
      let h = t.has_last p Np in
      let k = t.below.kept p _ h in
      case (status t st all only p Np)
      (λ o. let e : P p (M' p) ≡ P p (t.last p) = ap (P p) (over_moved p o) in
      inr (λ q a. let a1 = a.1 in (omega arith, omega arith)))
      (λ s. case s inl (λ g. let e : P p (M' p) ≡ P p (M p) = ap (P p) (held_moved p g) in
      inr (λ q a. let a0 = a.0 in let a1 = a.1 in (omega arith, omega arith))))

  unblocked_on : (p q : ℕ) → 0 < T p q → (M' p ≡ q) ⊎ (Prefers P M' p q ⊎ Prefers P M' q p)
  unblocked_on p q l =
      let lq : 0 < T q p = t.below.both p q l in
      let Nq = t.listed q p lq in
      case (others_content p (t.listed p q l))
      (λ w. case (lost_content p q l w) inl (λ a. inr (inl a)))
      (λ gp. case (others_content q Nq)
      (λ w. case (lost_content q p lq w)
      (λ e. inl (ap M' (sym e) ∙ moved_back q Nq))
      (λ a. inr (inr a)))
      (λ gq. case (st.unblocked p q (was_there t.below p q l))
      (λ e. inl (held_moved p (rw e l) ∙ e))
      (λ s. inr (⊎_map (gp q) (gq p) s))))

  pub matching_in_table : (M' : ℕ → ℕ) × (Stable P M' × On P T M')
  matching_in_table = (
    M',
    (
      record {
        back = λ p l. moved_back p (still_in p l);
        unblocked = λ p q l. case (t.struck p q l)
            (unblocked_on p q)
            (λ w. inr (⊎_map (moved_prefers p q) (moved_prefers q p) w));
      },
      (λ p l. on_list p (still_in p l)),
    ),
  )
