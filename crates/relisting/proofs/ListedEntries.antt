-- The places of ascending entries, by joint and then by candidate, are the entries in their order.
use mathlib.Core.Path.{◌≡◌, refl, ap, ◌∙◌}
use mathlib.Core.Bool.{cond}
use mathlib.Core.List.{List, [], ◌∷◌}
use mathlib.Core.Logic.{◌⊎◌, inl, inr}
use Prim.Native.Nat.{ℕ, suc, ◌≤◌, ◌<◌}
use native.Mathlib.Omega.{arith}
use lib.Dec.{ltb}
use borrow.Author.Tests.{lt-ltb}
use Rattle.base.specs.Below.{joined}
use Rattle.base.proofs.Cases.{case}
use Rattle.base.proofs.Tests.{unlisted}
use Rattle.base.proofs.Joined.{joined_empty, Front, joined_front, joined_same}
use Rattle.sections.specs.declared.Entry.{Entry}
use Rattle.sections.specs.Entries.{band_in, entry_of}
use Rattle.sections.specs.Claims.{Sound, Each, Ascending}
use Rattle.sections.proofs.BandIn.{band_here, band_elsewhere, band_nowhere}
use Rattle.sheet.specs.Square.{at}
use Rattle.roommates.specs.Lists.{Square}
use Rattle.roommates.specs.Left.{entry, entries}
use Rattle.relisting.specs.Written.{bytes_of}

-- ONE PLACE, with its band
abbrev cell : ℕ → ℕ → ℕ → List ℕ
cell a b k = cond (ltb 0 k) (a ∷ (b ∷ (k ∷ []))) []

cell_none : (a b k : ℕ) → k ≡ 0 → cell a b k ≡ []
cell_none a b k z = rw (unlisted k z)

cell_some : (a b k : ℕ) → 0 < k → cell a b k ≡ a ∷ (b ∷ (k ∷ []))
cell_some a b k h = rw (lt-ltb 0 k h)

-- all places below n of a table of bands
abbrev pub table_bytes : ℕ → (ℕ → ℕ → ℕ) → List ℕ
table_bytes n T = joined n (λ a. joined n (λ b. cell a b (T a b)))

pub table_same : (n : ℕ) (T U : ℕ → ℕ → ℕ) → ((a b : ℕ) → T a b ≡ U a b) → table_bytes n T ≡ table_bytes n U
table_same n T U e = joined_same n _ _ (λ a l. joined_same n _ _ (λ b k. ap (cell a b) (e a b)))

pub entries_table : (n : ℕ) (u : Square) → entries n u ≡ table_bytes n (at u)
unfolding entry
entries_table n u = refl

-- FROM THE FIRST ENTRY ON
module _ (n : ℕ) (e : Entry) (es : List Entry) (sound : Sound n e) (ascending : Ascending (e ∷ es)) where
  -- none of the others has a place up to its own
  none_before : (a b : ℕ) → (a < e.joint) ⊎ ((a ≡ e.joint) × (b ≤ e.other)) → band_in es a b ≡ 0
  none_before a b early =
      band_nowhere es a b λ j l.
      case (ascending 0 (suc j) (omega arith) (omega arith))
      (λ h. inl (λ same. case early (λ k. omega arith) (λ k. omega arith)))
      (λ h. case early (λ k. inl (λ same. omega arith)) (λ k. inr (λ same. let m : e.other < (entry_of es j).other = h.1 in omega arith)))

  front_place : Front (λ b. cell e.joint b (band_in (e ∷ es) e.joint b)) (λ b. cell e.joint b (band_in es e.joint b))
      e.other (e.joint ∷ (e.other ∷ (e.band ∷ [])))
  front_place = record {
    none_f = λ b l. cell_none _ _ _ (band_elsewhere e es e.joint b (inr (λ s. omega arith)) ∙ none_before e.joint b (inr (refl, omega arith)));
    none_g = λ b l. cell_none _ _ _ (none_before e.joint b (inr (refl, omega arith)));
    here = rw (band_here e es e.joint e.other (refl, refl), cell_none e.joint e.other _ (none_before e.joint e.other (inr (refl, omega arith))))
        (cell_some _ _ e.band sound.band_above);
    same = λ b l. ap (cell e.joint b) (band_elsewhere e es e.joint b (inr (λ s. omega arith)));
  }

  front_row : Front (λ a. joined n (λ b. cell a b (band_in (e ∷ es) a b))) (λ a. joined n (λ b. cell a b (band_in es a b)))
      e.joint (e.joint ∷ (e.other ∷ (e.band ∷ [])))
  front_row = record {
    none_f = λ a l. joined_empty n _ (λ b k. cell_none a b _ (band_elsewhere e es a b (inl (λ s. omega arith)) ∙ none_before a b (inl l)));
    none_g = λ a l. joined_empty n _ (λ b k. cell_none a b _ (none_before a b (inl l)));
    here = joined_front front_place n sound.other_below;
    same = λ a l. joined_same n _ _ (λ b k. ap (cell a b) (band_elsewhere e es a b (inl (λ s. omega arith))));
  }

pub listed_bytes : (n : ℕ) (es : List Entry) → Each (Sound n) es → Ascending es → table_bytes n (band_in es) ≡ bytes_of es
unfolding bytes_of
listed_bytes n [] each ascending =
    joined_empty n _ (λ a l. joined_empty n _ (λ b k. cell_none a b _ (band_nowhere [] a b (λ j i. absurd (omega arith)))))
listed_bytes n (e ∷ es) each ascending =
    let first = each 0 (omega arith) in
    let rest = listed_bytes n es (λ j l. each (suc j) (omega arith)) (λ i j k l. ascending (suc i) (suc j) (omega arith) (omega arith)) in
    joined_front (front_row n e es first ascending) n first.joint_below ∙ ap (λ (l : List ℕ). e.joint ∷ (e.other ∷ (e.band ∷ l))) rest
