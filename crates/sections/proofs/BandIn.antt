-- The band of a place: that of the first entry with the place, 0 where none has it.
use mathlib.Core.Path.{◌≡◌, refl, ◌∙◌}
use mathlib.Core.List.{List, [], ◌∷◌}
use Prim.Native.Nat.{ℕ, suc}
use native.Mathlib.Omega.{arith}
use lib.ListN.{length}
use borrow.Author.Tests.{eq-eqb, ne_eqb}
use Rattle.sections.specs.declared.Entry.{Entry}
use Rattle.sections.specs.Entries.{band_in, entry_of}
use Rattle.base.proofs.Cases.{case, eq_ne}
use Rattle.sections.proofs.Places.{Here, Elsewhere, Nowhere}

pub band_here : (e : Entry) (es : List Entry) (a b : ℕ) → Here e a b → band_in (e ∷ es) a b ≡ e.band
unfolding band_in
band_here e es a b h = rw (eq-eqb a e.joint h.0, eq-eqb b e.other h.1)

pub band_elsewhere : (e : Entry) (es : List Entry) (a b : ℕ) → Elsewhere e a b → band_in (e ∷ es) a b ≡ band_in es a b
unfolding band_in
band_elsewhere e es a b off =
    case (eq_ne a e.joint)
    (λ same. case off (λ ne. absurd (ne same)) (λ ne. rw (eq-eqb a e.joint same, ne_eqb b e.other ne)))
    (λ ne. rw (ne_eqb a e.joint ne))

pub band_nowhere : (es : List Entry) (a b : ℕ) → Nowhere (length es) (entry_of es) a b → band_in es a b ≡ 0
unfolding band_in
band_nowhere [] a b none = refl
band_nowhere (e ∷ es) a b none =
    band_elsewhere e es a b (none 0 (omega arith)) ∙ band_nowhere es a b (λ j l. none (suc j) (omega arith))
