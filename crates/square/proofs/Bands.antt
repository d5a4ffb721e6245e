-- What the bands of sound entries are.
use mathlib.Core.Path.{◌≡◌, refl, sym, ◌∙◌}
use mathlib.Core.List.{List, [], ◌∷◌}
use mathlib.Core.Logic.{◌⊎◌, inl, inr}
use Prim.Native.Nat.{ℕ, zero, suc, ◌≤◌, ◌<◌}
use native.Mathlib.Omega.{arith}
use lib.ListN.{length}
use Rattle.base.proofs.Cases.{case}
use Rattle.sections.specs.declared.Entry.{Entry}
use Rattle.sections.specs.Entries.{band_in, entry_of}
use Rattle.sections.specs.Claims.{Sound, Each}
use Rattle.sections.proofs.Places.{Here, here_or_not}
use Rattle.sections.proofs.BandIn.{band_here, band_elsewhere}
use Rattle.square.proofs.Only.{band_nil}

-- some entry has the place and the band
abbrev ListedAt : List Entry → ℕ → ℕ → Type 0
ListedAt es a b = (j : ℕ) × (j < length es) × Here (entry_of es j) a b × (band_in es a b ≡ (entry_of es j).band)

band_known : (es : List Entry) (a b : ℕ) → ListedAt es a b ⊎ (band_in es a b ≡ 0)
band_known [] a b = inr (band_nil a b)
band_known (e ∷ es) a b =
    case (here_or_not e a b)
    (λ h. inl (0, omega arith, h, band_here e es a b h))
    (λ off. let same = band_elsewhere e es a b off in
    case (band_known es a b)
    (λ s. inl (suc s.0, omega arith, s.2, same ∙ s.3))
    (λ z. inr (same ∙ z)))

-- each entry is listed in some band
pub own_listed : (n : ℕ) (es : List Entry) → Each (Sound n) es → Each (λ e. 0 < band_in es e.joint e.other) es
own_listed n [] each j l = absurd (omega arith)
own_listed n (e ∷ es) each zero l = rw (band_here e es e.joint e.other (refl, refl)) (each 0 l).band_above
own_listed n (e ∷ es) each (suc j) l =
    let d : Entry = entry_of es j in
    case (here_or_not e d.joint d.other)
    (λ h. rw (band_here e es d.joint d.other h) (each 0 (omega arith)).band_above)
    (λ off. rw (band_elsewhere e es d.joint d.other off) (own_listed n es (λ i k. each (suc i) (omega arith)) j (omega arith)))

module _ (n : ℕ) (es : List Entry) (each : Each (Sound n) es) where
  pub band_inside : (a b : ℕ) → 0 < band_in es a b → (a < n) × (b < n)
  band_inside a b h =
      case (band_known es a b)
      (λ s. let e = each s.0 s.1 in omega arith)
      (λ z. absurd (omega arith))

  pub band_itself : (a : ℕ) → band_in es a a ≡ 0
  band_itself a =
      case (band_known es a a)
      (λ s. absurd ((each s.0 s.1).not_itself (sym s.2.0 ∙ s.2.1)))
      (λ z. z)

  pub band_small : (a b : ℕ) → band_in es a b ≤ 127
  band_small a b =
      case (band_known es a b)
      (λ s. let e = each s.0 s.1 in omega arith)
      (λ z. omega arith)
