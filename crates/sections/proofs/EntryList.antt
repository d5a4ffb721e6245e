-- The list of a sheet's entries, entry by entry.
use mathlib.Core.Path.{◌≡◌, refl, ap, ◌∙◌}
use mathlib.Core.List.{List}
use Prim.Native.Nat.{ℕ, zero, suc, ◌+◌, ◌<◌}
use native.Mathlib.Nat.{add-zero}
use native.Mathlib.Omega.{arith}
use lib.ListN.{length, get_or}
use Rattle.sections.specs.Entries.{entry, entry_in, entries_from}

pub length_entries : (m j : ℕ) (part : List ℕ) → length (entries_from m j part) ≡ m
unfolding entries_from
length_entries zero j part = refl
length_entries (suc m) j part = ap suc (length_entries m (suc j) part)

pub entry_from : (m s : ℕ) (part : List ℕ) (j : ℕ) → j < m → get_or (entries_from m s part) j (entry 0 0 0) ≡ entry_in part (s + j)
unfolding entries_from
entry_from zero s part j l = absurd (omega arith)
entry_from (suc m) s part zero l = rw (add-zero s)
entry_from (suc m) s part (suc j) l =
    let e : suc s + j ≡ s + suc j = omega arith in entry_from m (suc s) part j (omega arith) ∙ ap (entry_in part) e

pub entry_at : (m : ℕ) (part : List ℕ) (j : ℕ) → j < m → get_or (entries_from m 0 part) j (entry 0 0 0) ≡ entry_in part j
entry_at m part j l = let e : 0 + j ≡ j = omega arith in entry_from m 0 part j l ∙ ap (entry_in part) e
