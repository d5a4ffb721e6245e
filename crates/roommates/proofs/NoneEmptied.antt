-- Who is set aside, and the test after a trial, as facts: no list is empty but those that were so at phase one's end.
use mathlib.Core.Path.{◌≡◌, refl, ◌∙◌}
use mathlib.Core.Bool.{true}
use mathlib.Core.List.{List}
use Prim.Native.Nat.{ℕ, zero, suc, ◌≤◌, ◌<◌}
use native.Mathlib.Omega.{arith}
use lib.Dec.{eqb}
use lib.ListN.{length, get_or, length-set, length-replicate}
use lib.Seq.{get_or-set_same, get_or-set_other}
use borrow.Author.Tests.{leb-true, le-leb, eqb-true, eq-eqb, ne_eqb}
use Rattle.base.proofs.Cases.{case, both_ways, lt_ge, below_suc}
use Rattle.base.proofs.AllBelow.{all_true, all_pass}
use Rattle.roommates.specs.Lists.{Square, row, list_length}
use Rattle.roommates.specs.PhaseTwo.{aside_below, aside_of, none_emptied}
use Rattle.roommates.proofs.HasList.{HasList}
use Rattle.roommates.proofs.States.{zeros}

module _ (n : ℕ) (t : Square) where
  aside_length : (i : ℕ) → length (aside_below i n t) ≡ 128
  unfolding aside_below
  aside_length zero = length-replicate {A = ℕ} 128 0
  aside_length (suc i) =
      case (both_ways (eqb (list_length n (row t i)) 0))
      (λ b. rw b (length-set (aside_below i n t) i 1 ∙ aside_length i))
      (λ b. rw b (aside_length i))

  -- an empty list: set aside
  aside_empty : (i : ℕ) → i ≤ 128 → (a : ℕ) → a < i → list_length n (row t a) ≡ 0 → get_or (aside_below i n t) a 0 ≡ 1
  unfolding aside_below
  aside_empty zero few a l e = absurd (omega arith)
  aside_empty (suc i) few a l e =
      let g : List ℕ = aside_below i n t in
      case (below_suc l)
      (λ h.
      let e' : list_length n (row t i) ≡ 0 = rw (← h) e in
      let in-range : i < length g = let m = aside_length i in omega arith in
      rw (h, eq-eqb _ _ e') (get_or-set_same g i 1 0 in-range))
      (λ h.
      let had : get_or g a 0 ≡ 1 = aside_empty i (omega arith) a h e in
      case (both_ways (eqb (list_length n (row t i)) 0))
      (λ b. rw b (get_or-set_other g i a 1 0 (omega arith) ∙ had))
      (λ b. rw b had))

  -- a list that is not: not set aside
  aside_listed : (i a : ℕ) → HasList n t a → get_or (aside_below i n t) a 0 ≡ 0
  unfolding aside_below
  aside_listed zero a h = zeros 128 a
  aside_listed (suc i) a h =
      let g : List ℕ = aside_below i n t in
      let had : get_or g a 0 ≡ 0 = aside_listed i a h in
      case (both_ways (eqb (list_length n (row t i)) 0))
      (λ b.
      let e : list_length n (row t i) ≡ 0 = eqb-true _ _ b in
      let ne : a ≡ i → ⊥ = λ d. (let z : list_length n (row t a) ≡ 0 = rw d e in omega arith) in
      rw b (get_or-set_other g i a 1 0 ne ∙ had))
      (λ b. rw b had)

module _ (n : ℕ) (one t : Square) where
  pub none_emptied_has : none_emptied n (aside_of n one) t ≡ true → (a : ℕ) → a < n → HasList n one a → HasList n t a
  unfolding none_emptied
  none_emptied_has h a l has =
      let free : get_or (aside_of n one) a 0 ≡ 0 = aside_listed n one n a has in
      leb-true 1 (list_length n (row t a)) (rw (ne_eqb (get_or (aside_of n one) a 0) 1 (omega arith)) at (all_true n _ h a l))

  pub has_none_emptied : n ≤ 128 → ((a : ℕ) → a < n → HasList n one a → HasList n t a) → none_emptied n (aside_of n one) t ≡ true
  unfolding none_emptied
  has_none_emptied few f = all_pass n _ λ a l.
      case (lt_ge 0 (list_length n (row one a)))
      (λ h.
      let free : get_or (aside_of n one) a 0 ≡ 0 = aside_listed n one n a h in
      rw (ne_eqb (get_or (aside_of n one) a 0) 1 (omega arith)) (le-leb 1 (list_length n (row t a)) (f a l h)))
      (λ h. rw (aside_empty n one n few a l (omega arith)) refl)
