-- Entries in their places: the square has 128 rows of 128, and each entry's band in its place, 0 elsewhere.
use mathlib.Core.Path.{◌≡◌, refl, sym, ◌∙◌}
use mathlib.Core.List.{List, [], ◌∷◌}
use Prim.Native.Nat.{ℕ, zero, suc, ◌<◌}
use native.Mathlib.Omega.{arith}
use lib.ListN.{length, get_or, replicate, length-replicate, get_or-replicate, get_or-eq_default}
use Rattle.base.proofs.Cases.{case, lt_ge}
use Rattle.sections.specs.declared.Entry.{Entry}
use Rattle.sections.specs.Entries.{band_in}
use Rattle.sections.specs.Claims.{Each}
use Rattle.sections.proofs.Places.{here_or_not}
use Rattle.sections.proofs.BandIn.{band_here, band_elsewhere}
use Rattle.square.specs.Inside.{Fits}
use Rattle.square.specs.Square.{at, put, blank, placed}
use Rattle.square.proofs.Only.{band_nil}
use Rattle.square.proofs.PutOnePlace.{put_here, put_elsewhere, put_rows, put_row}

-- a square of zeros, of any size
abbrev zeros : ℕ → List ℕ
zeros k = replicate k 0

zero_row : (k b : ℕ) → get_or (zeros k) b 0 ≡ zero
zero_row k b =
    case (lt_ge b k)
    (λ l. get_or-replicate k b 0 0 l)
    (λ g. get_or-eq_default (zeros k) 0 {n = b} (rw (length-replicate k zero) g))

zero_square : (n k a b : ℕ) → at (replicate n (zeros k)) a b ≡ 0
zero_square n k a b =
    case (lt_ge a n)
    (λ l. rw (get_or-replicate n a (zeros k) [] l) (zero_row k b))
    (λ g. rw (get_or-eq_default (replicate n (zeros k)) [] {n = a} (rw (length-replicate n (zeros k)) g)))

blank_row : (n k a : ℕ) → a < n → length (get_or (replicate n (zeros k)) a []) ≡ k
blank_row n k a l = rw (get_or-replicate n a (zeros k) [] l) (length-replicate k zero)

pub placed_none : placed [] ≡ blank
unfolding placed
placed_none = refl

pub placed_more : (e : Entry) (es : List Entry) → placed (e ∷ es) ≡ put (placed es) e
unfolding placed
placed_more e es = refl

pub placed_rows : (es : List Entry) → length (placed es) ≡ 128
placed_rows [] = rw placed_none (length-replicate 128 (zeros 128))
placed_rows (e ∷ es) = rw placed_more (put_rows (placed es) e ∙ placed_rows es)

pub placed_row : (es : List Entry) (a : ℕ) → a < 128 → length (get_or (placed es) a []) ≡ 128
placed_row [] a l = rw placed_none (blank_row 128 128 a l)
placed_row (e ∷ es) a l = rw placed_more (put_row (placed es) e a ∙ placed_row es a l)

pub placed_bands : (es : List Entry) → Each Fits es → (a b : ℕ) → at (placed es) a b ≡ band_in es a b
placed_bands [] fit a b = rw (placed_none, band_nil a b) (zero_square 128 128 a b)
placed_bands (e ∷ es) fit a b =
    rw placed_more (case (here_or_not e a b)
    (λ h.
    let f = fit 0 (omega arith) in
    rw (h.0, h.1) (put_here (placed es) e (rw (placed_rows es) f.0) (rw (placed_row es e.joint f.0) f.1))
    ∙ sym (band_here e es a b h))
    (λ off. put_elsewhere (placed es) e a b off ∙ placed_bands es (λ j l. fit (suc j) (omega arith)) a b ∙ sym (band_elsewhere e es a b off)))
