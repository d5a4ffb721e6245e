-- The square of mutual listings: what each place holds, and what it promises.
use mathlib.Core.Path.{◌≡◌, refl, ◌∙◌}
use mathlib.Core.Bool.{Bool, true, false, cond, ◌&&◌}
use mathlib.Core.List.{List}
use Prim.Native.Nat.{ℕ, ◌≤◌, ◌<◌}
use native.Mathlib.Omega.{arith}
use lib.Dec.{ltb}
use borrow.Author.Tests.{lt-ltb, ltb-true}
use Rattle.base.proofs.Cases.{case, both_ways}
use Rattle.base.proofs.Tests.{unlisted}
use Rattle.sections.specs.declared.Entry.{Entry}
use Rattle.sections.specs.Entries.{band_in}
use Rattle.sections.specs.Claims.{Sound, Each}
use Rattle.square.specs.Mutual.{returned, mutual_entries, mutual_band}
use Rattle.square.specs.Claims.{MutualPlaces, MutualPromise}
use Rattle.square.proofs.Only.{only_each, only_band}
use Rattle.square.proofs.Bands.{band_inside, band_itself, band_small}
use Rattle.square.specs.Inside.{Fits}
use Rattle.square.proofs.Placed.{placed_rows, placed_row, placed_bands}

pub sound_fits : (n : ℕ) (es : List Entry) → n ≤ 128 → Each (Sound n) es → Each Fits es
sound_fits n es few each j l = let e = each j l in (omega arith, omega arith)

pub mutual_places : MutualPlaces
mutual_places n es few each a b =
    placed_bands (mutual_entries es) (only_each (returned es) Fits es (sound_fits n es few each)) a b ∙ only_band (returned es) a b es

-- a place is listed exactly if each has an entry for the other
pub both_listed : (es : List Entry) (a b : ℕ) → ltb 0 (mutual_band es a b) ≡ (ltb 0 (band_in es b a) && ltb 0 (band_in es a b))
both_listed es a b = by_test (ltb 0 (band_in es b a)) (band_in es a b)
  where
    by_test : (p : Bool) (k : ℕ) → ltb 0 (cond p k 0) ≡ (p && ltb 0 k)
    by_test true k = refl
    by_test false k = unlisted 0 refl

-- a mutual band is that of the entry, which is returned; or it is 0
pub mutual_listed : (es : List Entry) (a b : ℕ) → 0 < mutual_band es a b → (mutual_band es a b ≡ band_in es a b) × (0 < band_in es b a)
mutual_listed es a b h =
    case (both_ways (ltb 0 (band_in es b a)))
    (λ e. (rw e refl, ltb-true 0 (band_in es b a) e))
    (λ e. let z : 0 < cond false (band_in es a b) 0 = rw e at h in absurd (omega arith))

pub mutual_both : (es : List Entry) (a b : ℕ) → 0 < mutual_band es a b → 0 < mutual_band es b a
mutual_both es a b h =
    let m = mutual_listed es a b h in
    let own : 0 < band_in es a b = omega arith in
    rw (lt-ltb 0 (band_in es a b) own) m.1

pub mutual_most : (es : List Entry) (a b : ℕ) → mutual_band es a b ≤ band_in es a b
mutual_most es a b = case (both_ways (ltb 0 (band_in es b a))) (λ e. rw e (omega arith)) (λ e. rw e (omega arith))

pub mutual_promise : MutualPromise
mutual_promise n es few each =
    let is = mutual_places n es few each in
    let most = mutual_most es in record {
      few_joints = few;
      rows = placed_rows (mutual_entries es);
      row = placed_row (mutual_entries es);
      inside = λ a b h. band_inside n es each a b (omega (arith, is a b, most a b));
      not_itself = λ a. omega (arith, is a a, most a a, band_itself n es each a);
      mutual_listing = λ a b h. rw (is b a) (mutual_both es a b (rw (is a b) at h));
      small_band = λ a b. omega (arith, is a b, most a b, band_small n es each a b);
    }
