-- The bytes of entries, read as a part of a sheet, are the entries.
use mathlib.Core.Path.{◌≡◌, refl, ◌∙◌}
use mathlib.Core.List.{List, [], ◌∷◌, ◌++◌}
use Prim.Native.Nat.{ℕ, zero, suc, ◌+◌, ◌*◌, ◌<◌}
use native.Mathlib.Omega.{arith}
use lib.ListN.{length}
use lib.Seq.{ext_get_or}
use Rattle.sections.specs.declared.Entry.{Entry}
use Rattle.sections.specs.Entries.{entry, entry_in, entries_from, entry_of}
use Rattle.sections.proofs.EntryList.{length_entries, entry_at}
use Rattle.relisting.specs.Written.{bytes_of}

pub bytes_length : (es : List Entry) → length (bytes_of es) ≡ 3 * length es
unfolding bytes_of
bytes_length [] = refl
bytes_length (e ∷ es) = let rest = bytes_length es in omega arith

-- entry j + 1 stands three bytes further on
entry_next : (x y z : ℕ) (l : List ℕ) (j : ℕ) → entry_in (x ∷ (y ∷ (z ∷ l))) (suc j) ≡ entry_in l j
unfolding entry_in
entry_next x y z l j =
    let e : 3 * suc j ≡ suc (suc (suc (3 * j))) = omega arith in
    let e₁ : 3 * suc j + 1 ≡ suc (suc (suc (3 * j + 1))) = omega arith in
    let e₂ : 3 * suc j + 2 ≡ suc (suc (suc (3 * j + 2))) = omega arith in
    rw (e₁, e₂, e)

-- whatever follows them
module _ (rest : List ℕ) where
  pub byte_entry : (es : List Entry) (j : ℕ) → j < length es → entry_in (bytes_of es ++ rest) j ≡ entry_of es j
  unfolding bytes_of entry_in
  byte_entry [] j l = absurd (omega arith)
  byte_entry (e ∷ es) zero l = refl
  byte_entry (e ∷ es) (suc j) l = entry_next _ _ _ (bytes_of es ++ rest) j ∙ byte_entry es j (omega arith)

  pub entries_back : (es : List Entry) → entries_from (length es) 0 (bytes_of es ++ rest) ≡ es
  entries_back es =
      let long = length_entries (length es) 0 (bytes_of es ++ rest) in
      ext_get_or (entry 0 0 0) _ es long
      (λ i l. let k : i < length es = rw long at l in entry_at (length es) (bytes_of es ++ rest) i k ∙ byte_entry es i k)
