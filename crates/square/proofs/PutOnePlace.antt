-- An entry put in the square changes its one place, and no length.
use mathlib.Core.Path.{◌≡◌}
use mathlib.Core.List.{List, []}
use mathlib.Core.Logic.{◌≢◌}
use Prim.Native.Nat.{ℕ, ◌<◌}
use lib.ListN.{length, get_or, set, length-set}
use lib.Seq.{get_or-set_same, get_or-set_other, set_out}
use Rattle.sections.specs.declared.Entry.{Entry}
use Rattle.square.specs.Square.{at, put}
use Rattle.base.proofs.Cases.{case, lt_ge, eq_ne}
use Rattle.sections.proofs.Places.{Elsewhere}

-- the row of the entry's joint, and the others, also past the end
put_own_row : (t : List (List ℕ)) (e : Entry) → e.joint < length t
    → get_or (put t e) e.joint [] ≡ set (get_or t e.joint []) e.other e.band
put_own_row t e l = get_or-set_same t e.joint _ [] l

put_other_row : (t : List (List ℕ)) (e : Entry) (a : ℕ) → a ≢ e.joint → get_or (put t e) a [] ≡ get_or t a []
put_other_row t e a ne = get_or-set_other t e.joint a _ [] ne

pub put_here : (t : List (List ℕ)) (e : Entry) → e.joint < length t → e.other < length (get_or t e.joint [])
    → at (put t e) e.joint e.other ≡ e.band
put_here t e l k = rw (put_own_row t e l) (get_or-set_same (get_or t e.joint []) e.other e.band 0 k)

-- whether or not the entry fits the square
pub put_elsewhere : (t : List (List ℕ)) (e : Entry) (a b : ℕ) → Elsewhere e a b → at (put t e) a b ≡ at t a b
put_elsewhere t e a b off =
    case (eq_ne a e.joint)
    (λ same. case off (λ ne. absurd (ne same))
    (λ ne. case (lt_ge e.joint (length t))
    (λ l. rw (same, put_own_row t e l) (get_or-set_other (get_or t e.joint []) e.other b e.band 0 ne))
    (λ out. rw (set_out t e.joint (set (get_or t e.joint []) e.other e.band) out))))
    (λ ne. rw (put_other_row t e a ne))

pub put_rows : (t : List (List ℕ)) (e : Entry) → length (put t e) ≡ length t
put_rows t e = length-set t e.joint _

pub put_row : (t : List (List ℕ)) (e : Entry) (a : ℕ) → length (get_or (put t e) a []) ≡ length (get_or t a [])
put_row t e a =
    case (eq_ne a e.joint)
    (λ same. case (lt_ge e.joint (length t))
    (λ l. rw (same, put_own_row t e l) (length-set (get_or t e.joint []) e.other e.band))
    (λ out. rw (set_out t e.joint (set (get_or t e.joint []) e.other e.band) out)))
    (λ ne. rw (put_other_row t e a ne))
