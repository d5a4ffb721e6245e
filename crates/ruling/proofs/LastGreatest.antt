-- What `max_by_key` over the numbers below n finds, of equal keys the last: `argmax` of the keys.
use Rattle.std.proofs.Common.{◌≡◌, refl, sym, ◌∙◌, ap, ℕ, zero, suc, ◌+◌, ◌≤◌, ◌<◌, List, [], ◌∷◌, length, get_or, drop, Bor, arith}
use mathlib.Core.Logic.{◌⊎◌, inl, inr}
use Rattle.std.specs.Prelude.{Some, None, Option}
use Rattle.std.specs.declared.cmp.Ordering.{Ordering}
use Rattle.std.specs.declared.cmp.Ordering.TheVariants.{Less, Equal, Greater}
use Rattle.std.specs.List.{range_with_len, FoldsTo}
use Rattle.std.specs.Fn.{CalledAt}
use Rattle.std.specs.Option.{unwrap_or}
use Rattle.std.specs.Iterator.{KeyTurn, PicksMaxByKey, Drains}
use Rattle.std.specs.Ordering.{max_by_ordering, nat_cmp}
use Rattle.std.proofs.lemmas.Cmp.{ranked}
use Rattle.std.proofs.lemmas.Iterator.{YieldsList, items_from_drains}
use Rattle.std.proofs.lemmas.List.{map-id}
use Rattle.std.proofs.lemmas.List.FromFn.{length-range_with_len}
use Rattle.base.specs.Below.{argmax}
use Rattle.base.proofs.Cases.{case}
use Rattle.base.proofs.Argmax.{argmax_starts, argmax_next, argmax_same}
use denote.Param.Members.{Mut}

-- the later of two keys is taken unless it is less
picked : (o : Ordering) (k l b i : ℕ) → o ≡ nat_cmp k l
    → ((k ≤ l) × (max_by_ordering o k l ≡ l) × (max_by_ordering o b i ≡ i)) ⊎ ((l < k) × (max_by_ordering o k l ≡ k) × (max_by_ordering o b i ≡ b))
picked Less k l b i e = inl (omega (arith, ranked k l Less e), refl, refl)
picked Equal k l b i e = inl (omega (arith, ranked k l Equal e), refl, refl)
picked Greater k l b i e = inr (ranked k l Greater e, refl, refl)

module _ {F : Type 0} (g : Mut F (Bor ℕ × Unit {0}) ℕ) (f : F) (key : ℕ → ℕ) (pure : (x k : ℕ) (q : F) → CalledAt g f x k q → (q ≡ f) × (k ≡ key x)) where
  abbrev Turn : (F × ℕ) × ℕ → ℕ → (F × ℕ) × ℕ → Type 0
  Turn = KeyTurn max_by_ordering max_by_ordering g nat_cmp

  turns : (m i k b : ℕ) (p : F) (q : F × ℕ) (y : ℕ) → p ≡ f → k ≡ key b → b ≡ argmax i key → FoldsTo Turn ((p, k), b) (range_with_len i m) (q, y)
      → y ≡ argmax (i + m) key
  turns zero i k b p q y ep ek eb t =
      let z : i + 0 ≡ i = omega arith in
      rw z (sym (ap (λ s. s.1) t) ∙ eb)
  turns (suc m) i k b p q y ep ek eb t =
      let s : i + 1 + m ≡ i + suc m = omega arith in
      let j = t.0 in
      let u = t.1 in
      let called = pure i u.0 j.0.0 (rw ep at u.2) in
      let best : (j.1 ≡ argmax (i + 1) key) × (j.0.1 ≡ key j.1) =
      case (picked u.1 k u.0 b i (sym u.3))
      (λ h. argmax_next i key eb ek called.1 (u.5 ∙ h.2) (u.4 ∙ h.1) h.0)
      (λ h. argmax_same i key eb ek called.1 (u.5 ∙ h.2) (u.4 ∙ h.1) h.0) in
      rw s at (turns m (i + 1) j.0.1 j.1 j.0.0 q y called.0 best.1 best.0 t.2)

  module _ {S : Type 0} {steps : S → Option ℕ → S → Type 0} (s : S) where
    items : (xs : List ℕ) (n : ℕ) → Drains steps s xs → YieldsList steps (λ x. x) s (range_with_len 0 n) → xs ≡ range_with_len 0 n
    items xs n d y = sym (map-id xs) ∙ items_from_drains xs (d.1.0, d.1.1, λ w. (d.0, d.1.2)) y

    pub last_greatest : (n : ℕ) (r : Option ℕ) → PicksMaxByKey steps g nat_cmp s f r → YieldsList steps (λ x. x) s (range_with_len 0 n)
        → unwrap_or r 0 ≡ argmax n key
    last_greatest zero None d y = argmax_starts key
    last_greatest (suc m) None d y = let e = ap length (items [] (suc m) d y) ∙ length-range_with_len 0 (suc m) in absurd (omega arith)
    last_greatest zero (Some x) d y = let e = ap length (items (d.0 ∷ d.1) zero d.5 y) in absurd (omega arith)
    last_greatest (suc m) (Some x) d y =
        let it = items (d.0 ∷ d.1) (suc m) d.5 y in
        let first : d.0 ≡ 0 = ap (λ (l : List ℕ). get_or l 0 0) it in
        let rest : d.1 ≡ range_with_len 1 m = ap (λ (l : List ℕ). drop 1 l) it in
        let called = pure d.0 d.2 d.3 d.6 in
        let best : (d.0 ≡ argmax 1 key) × (d.2 ≡ key d.0) = argmax_next 0 key {m = key 0} {k = key 0} (argmax_starts key) refl refl first (called.1 ∙ ap key first) (omega arith) in
        let s : 1 + m ≡ suc m = omega arith in
        rw s at (turns m 1 d.2 d.0 d.3 d.4 x called.0 called.1 best.0 (rw rest at d.7))
