-- Laws of `only`: what holds of the entries holds of those that pass, and those have the bands of the places that pass.
use mathlib.Core.Path.{◌≡◌, refl, ap, ap₂, sym, ◌∙◌}
use mathlib.Core.Bool.{Bool, true, false, cond}
use mathlib.Core.List.{List, [], ◌∷◌}
use Prim.Native.Nat.{ℕ, zero, suc, ◌≤◌}
use native.Mathlib.Omega.{arith}
use lib.ListN.{length}
use Rattle.base.proofs.Cases.{case, both_ways}
use Rattle.base.proofs.Tests.{never}
use Rattle.sections.specs.declared.Entry.{Entry}
use Rattle.sections.specs.Entries.{band_in}
use Rattle.sections.specs.Claims.{Before, Each, Ascending}
use Rattle.sections.proofs.Places.{Here, here_or_not}
use Rattle.sections.proofs.BandIn.{band_here, band_elsewhere, band_nowhere}
use Rattle.square.specs.Mutual.{only}

module _ (e : Entry) (es : List Entry) where
  each_more : (P : Entry → Type 0) → P e → Each P es → Each P (e ∷ es)
  each_more P p h zero l = p
  each_more P p h (suc j) l = h j (omega arith)

  ascending_more : Each (Before e) es → Ascending es → Ascending (e ∷ es)
  ascending_more b h i zero k l = absurd (omega arith)
  ascending_more b h zero (suc j) k l = b j (omega arith)
  ascending_more b h (suc i) (suc j) k l = h i j (omega arith) (omega arith)

pub band_nil : (a b : ℕ) → band_in [] a b ≡ 0
band_nil a b = band_nowhere [] a b (λ j l. absurd (omega arith))

module _ (test : ℕ → ℕ → Bool) where
  pub only_nil : only test [] ≡ []
  unfolding only
  only_nil = refl

  -- an entry passes, or it does not
  module _ (e : Entry) (es : List Entry) where
    pub only_more : only test (e ∷ es) ≡ cond (test e.joint e.other) (e ∷ only test es) (only test es)
    unfolding only
    only_more = refl

    -- so what holds in both cases holds
    by_test : (P : List Entry → Type 0) → (test e.joint e.other ≡ true → P (e ∷ only test es))
        → (test e.joint e.other ≡ false → P (only test es)) → P (only test (e ∷ es))
    by_test P passes fails =
        case (both_ways (test e.joint e.other))
        (λ h. rw (only_more, h) (passes h))
        (λ h. rw (only_more, h) (fails h))

  pub only_each : (P : Entry → Type 0) (es : List Entry) → Each P es → Each P (only test es)
  only_each P [] h = rw only_nil h
  only_each P (e ∷ es) h =
      let rest = only_each P es (λ j l. h (suc j) (omega arith)) in
      by_test e es (Each P) (λ k. each_more e (only test es) P (h 0 (omega arith)) rest) (λ k. rest)

  pub only_ascends : (es : List Entry) → Ascending es → Ascending (only test es)
  only_ascends [] h = rw only_nil h
  only_ascends (e ∷ es) h =
      let rest = only_ascends es (λ i j k l. h (suc i) (suc j) (omega arith) (omega arith)) in
      let behind = only_each (Before e) es (λ j l. h 0 (suc j) (omega arith) (omega arith)) in
      by_test e es Ascending (λ k. ascending_more e (only test es) behind rest) (λ k. rest)

  -- each of them passes, and they are no more
  pub only_passes : (es : List Entry) → Each (λ e. test e.joint e.other ≡ true) (only test es)
  only_passes [] = rw only_nil (λ j l. absurd (omega arith))
  only_passes (e ∷ es) =
      let rest = only_passes es in
      by_test e es (Each (λ d. test d.joint d.other ≡ true))
      (λ k. each_more e (only test es) (λ d. test d.joint d.other ≡ true) k rest) (λ k. rest)

  pub only_fewer : (es : List Entry) → length (only test es) ≤ length es
  only_fewer [] = rw only_nil (omega arith)
  only_fewer (e ∷ es) =
      let rest = only_fewer es in
      by_test e es (λ l. length l ≤ length (e ∷ es)) (λ k. omega arith) (λ k. omega arith)

  -- the band of a place: as it was, or none
  module _ (a b : ℕ) where
    same_place : (e : Entry) → Here e a b → test a b ≡ test e.joint e.other
    same_place e h = ap₂ test h.0 h.1

    pub only_same : test a b ≡ true → (es : List Entry) → band_in (only test es) a b ≡ band_in es a b
    only_same pass [] = rw only_nil
    only_same pass (e ∷ es) =
        let rest = only_same pass es in
        by_test e es (λ l. band_in l a b ≡ band_in (e ∷ es) a b)
        (λ k. case (here_or_not e a b)
        (λ h. band_here e (only test es) a b h ∙ sym (band_here e es a b h))
        (λ off. band_elsewhere e (only test es) a b off ∙ rest ∙ sym (band_elsewhere e es a b off)))
        (λ k. case (here_or_not e a b)
        (λ h. absurd (never _ (sym (same_place e h) ∙ pass) k))
        (λ off. rest ∙ sym (band_elsewhere e es a b off)))

    pub only_none : test a b ≡ false → (es : List Entry) → band_in (only test es) a b ≡ 0
    only_none fail [] = rw only_nil (band_nil a b)
    only_none fail (e ∷ es) =
        by_test e es (λ l. band_in l a b ≡ 0)
        (λ k. case (here_or_not e a b)
        (λ h. absurd (never _ k (sym (same_place e h) ∙ fail)))
        (λ off. band_elsewhere e (only test es) a b off ∙ only_none fail es))
        (λ k. only_none fail es)

    pub only_band : (es : List Entry) → band_in (only test es) a b ≡ cond (test a b) (band_in es a b) 0
    only_band es = case (both_ways (test a b)) (λ h. rw h (only_same h es)) (λ h. rw h (only_none h es))

-- tests that agree on the entries' places let the same entries pass
pub only_agree : (f g : ℕ → ℕ → Bool) (es : List Entry) → Each (λ e. f e.joint e.other ≡ g e.joint e.other) es → only f es ≡ only g es
unfolding only
only_agree f g [] same = refl
only_agree f g (e ∷ es) same = rw (same 0 (omega arith), only_agree f g es (λ j l. same (suc j) (omega arith)))

-- and a test that all pass leaves them all
pub only_all : (es : List Entry) → only (λ a b. true) es ≡ es
unfolding only
only_all [] = refl
only_all (e ∷ es) = ap (λ (l : List Entry). e ∷ l) (only_all es)
