-- The entries of the rankings' section, three bytes each. Refusals 4, 5 and 6.
use Rattle.std.specs.Prelude.{Bool, false, ◌&&◌, ◌||◌, not, cond, List, [], ◌∷◌, map, ℕ, zero, suc, ◌+◌, ◌*◌, eqb, ltb, leb, get_or}
use Rattle.base.specs.Faults.{when, first_fault, fault_below}
use Rattle.sections.specs.declared.Entry.{Entry}

abbrev pub entry_width : ℕ
entry_width = 3

-- An entry: `other`, the candidate, stands in band `band` on the list of `joint`.
abbrev pub entry : ℕ → ℕ → ℕ → Entry
entry a b k = record { joint = a; other = b; band = k }

-- entry j of the section
unfoldable pub entry_in : List ℕ → ℕ → Entry
entry_in part j =
    entry (get_or part (entry_width * j) 0) (get_or part (entry_width * j + 1) 0) (get_or part (entry_width * j + 2) 0)

-- the f entries from the j-th on, as a list; entry j of a list
unfoldable pub entries_from : ℕ → ℕ → List ℕ → List Entry
entries_from zero j part = []
entries_from (suc f) j part = entry_in part j ∷ entries_from f (suc j) part

abbrev pub entry_of : List Entry → ℕ → Entry
entry_of es j = get_or es j (entry 0 0 0)

-- the entries that chunks of three bytes are
abbrev pub entries_in : List (List ℕ) → List Entry
entries_in chunks = map (λ (b : List ℕ). entry_in b 0) chunks

-- the band of b on a's list, 0 for unlisted
unfoldable pub band_in : List Entry → ℕ → ℕ → ℕ
band_in [] a b = 0
band_in (e ∷ es) a b = cond (eqb a e.joint && eqb b e.other) e.band (band_in es a b)

-- an entry comes after another: by joint, then by candidate
abbrev pub after : Entry → Entry → Bool
after e d = ltb d.joint e.joint || (eqb d.joint e.joint && ltb d.other e.other)

-- 4: a joint not below n, or itself as candidate
abbrev pub outside : ℕ → Entry → Bool
outside n e = leb n e.joint || (leb n e.other || eqb e.joint e.other)

-- 5: band 0 or above 127
abbrev pub no_band : Entry → Bool
no_band e = eqb e.band 0 || ltb 127 e.band

-- 6: entry j is not after the one before it
abbrev pub misplaced : List ℕ → ℕ → Bool
misplaced part zero = false
misplaced part (suc j) = not (after (entry_in part (suc j)) (entry_in part j))

unfoldable pub entry_fault : ℕ → List ℕ → ℕ → ℕ
entry_fault n part j =
    first_fault (when (outside n (entry_in part j)) 4 ∷ when (no_band (entry_in part j)) 5 ∷ when (misplaced part j) 6 ∷ [])

-- the m entries of the section, entry by entry
abbrev pub entries_fault : ℕ → ℕ → List ℕ → ℕ
entries_fault m n part = fault_below m (entry_fault n part)
