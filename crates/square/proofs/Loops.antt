-- From the last entry to the first: those that were met, in the order of the list, and which of them pass a test.
use mathlib.Core.Path.{◌≡◌, refl, sym, ap, subst, ◌∙◌}
use mathlib.Core.Bool.{Bool, true, false}
use mathlib.Core.List.{List, [], ◌∷◌, ◌++◌, map, reverse}
use Prim.Native.Nat.{ℕ, ◌-◌, ◌<◌}
use native.Mathlib.Omega.{arith}
use denote.Ref.{Bor}
use lib.Dec.{ltb}
use lib.ListN.{length, get_or, length-reverse}
use Rattle.std.proofs.lemmas.List.{map_push, length-map, get_or-map, get_or-reverse, reverse-append, reverse-reverse}
use Rattle.sections.specs.declared.Entry.{Entry}
use Rattle.sections.specs.Entries.{entry, entry_in, entries_in, entry_of}
use Rattle.square.specs.Inside.{Fits, Inside}
use Rattle.square.specs.Mutual.{only, returned, mutual_entries}
use Rattle.square.specs.Square.{at, put, placed}
use Rattle.square.proofs.Only.{only_more, only_agree}
use Rattle.square.proofs.Placed.{placed_more, placed_bands}

abbrev pub bytes_of : Bor (List ℕ) → List ℕ
bytes_of b = b.now

abbrev pub met : List (Bor (List ℕ)) → List Entry
met items = entries_in (reverse (map bytes_of items))

pub met_more : (items : List (Bor (List ℕ))) (x : Bor (List ℕ)) → met (items ++ x ∷ []) ≡ entry_in x.now 0 ∷ met items
met_more items x = ap (λ (l : List (List ℕ)). entries_in (reverse l)) (map_push bytes_of items x) ∙ ap entries_in (reverse-append (map bytes_of items) (x.now ∷ []))

pub met_all : (entries : List (List ℕ)) (items : List (Bor (List ℕ))) → map bytes_of items ≡ reverse entries → met items ≡ entries_in entries
met_all entries items h = ap (λ (l : List (List ℕ)). entries_in (reverse l)) h ∙ ap entries_in (reverse-reverse entries)

-- the one that is met after k others has its place
pub met_fits : (entries : List (List ℕ)) → Inside entries → (x : List ℕ) (k : ℕ) → (k < length (reverse entries)) × (x ≡ get_or (reverse entries) k x)
    → Fits (entry_in x 0)
met_fits entries inside x k h =
    let l : k < length entries = omega (arith, h.0, length-reverse entries) in
    let j : ℕ = length entries - 1 - k in
    let below : j < length entries = omega arith in
    let is : get_or entries j x ≡ x = sym (h.1 ∙ get_or-reverse entries k x l) in
    let same : get_or (entries_in entries) j (entry 0 0 0) ≡ entry_in x 0 =
    get_or-map (λ (b : List ℕ). entry_in b 0) entries j x (entry 0 0 0) below ∙ ap (λ (b : List ℕ). entry_in b 0) is in
    subst Fits same (inside j (rw (length-map entries (λ (b : List ℕ). entry_in b 0)) below))

-- the next one passes a test, and is put in its place; or it does not, and nothing is
module _ (passes : ℕ → ℕ → Bool) (items : List (Bor (List ℕ))) (x : Bor (List ℕ)) {e : Entry} (is : e ≡ entry_in x.now 0)
    {t : List (List ℕ)} (so_far : t ≡ placed (only passes (met items))) where
  pub met_passes : passes e.joint e.other ≡ true → put t e ≡ placed (only passes (met (items ++ x ∷ [])))
  met_passes h = rw (met_more items x, ← is, only_more passes e (met items), h, placed_more e (only passes (met items)), ← so_far) refl

  pub met_fails : passes e.joint e.other ≡ false → t ≡ placed (only passes (met (items ++ x ∷ [])))
  met_fails h = rw (met_more items x, ← is, only_more passes e (met items), h) so_far

-- the square of all entries tells which of them are returned
pub returned_across : (entries : List (List ℕ)) → Inside entries → (listed t : List (List ℕ)) → listed ≡ placed (entries_in entries)
    → t ≡ placed (only (λ a b. ltb 0 (at listed b a)) (entries_in entries)) → t ≡ placed (mutual_entries (entries_in entries))
returned_across entries inside listed t all h =
    let es : List Entry = entries_in entries in
    h ∙ ap placed (only_agree (λ a b. ltb 0 (at listed b a)) (returned es) es (λ j l. rw (all, placed_bands es inside (entry_of es j).other (entry_of es j).joint)))
