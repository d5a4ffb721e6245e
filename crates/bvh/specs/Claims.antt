-- That the sheet gives back the hierarchy, and what a caller may conclude from the call's answer.
use Rattle.std.specs.Prelude.{◌≡◌, List, [], ◌∷◌, ◌++◌, ◌⊎◌, ◌≢◌, ◌↔◌, ℕ, ◌≤◌, ◌<◌, length, take, drop, Ok, Err}
use Rattle.base.specs.Claims.{First}
use Rattle.refusals.specs.declared.Refusal.{Refusal}
use Rattle.refusals.specs.declared.Refusal.TheVariants.{TooManyJoints, OutTooShort, BadHierarchy, BadName}
use Rattle.refusals.specs.Numbers.{number_of}
use Rattle.sheet.specs.Format.{joints, label_of, entries_of, third, parents_of}
use Rattle.sheet.specs.Refusals.{sheet_fault}
use Rattle.words.specs.Words.{Words}
use Rattle.names.specs.Names.{name_of}
use Rattle.names.specs.Claims.{GoodNames, TooMany, FirstBad}
use Rattle.hierarchy.specs.Hierarchy.{hierarchy, joints_met}
use Rattle.hierarchy.specs.Claims.{cut_mark}
use Rattle.hierarchy.specs.Spelt.{Roots, root_names, root_enclosing, joints_in, Spells}
use Rattle.bvh.specs.Written.{label_for, sheet_for}
use Rattle.bvh.specs.Answers.{import_faults, import_of, import_into}

-- THE SHEET GIVES BACK THE HIERARCHY: the reader accepts it; its labels are the names in order of appearance, padded; its parents are, for
-- each block, the number of the block that encloses it, 255 for a root; nothing is ranked.
pub record GivesBack (h : Roots) (sheet : List ℕ) : Type 0 where
  pub accepted : sheet_fault sheet ≡ 0
  pub as_many : joints sheet ≡ length (root_names h)
  pub labels : (i : ℕ) → i < joints sheet → label_of sheet i ≡ label_for (name_of (root_names h) i)
  pub has_parents : third sheet ≢ []
  pub parents : parents_of sheet ≡ root_enclosing 0 h
  pub unranked : entries_of sheet ≡ []

-- of a hierarchy that a text spells: its words have bytes, so no name is empty
abbrev pub SheetGivesBack : Type 0
SheetGivesBack = (s : List ℕ) (h : Roots) → Spells s h → GoodNames (root_names h) → GivesBack h (sheet_for (joints_in h))

-- a text whose hierarchy can be a sheet
pub record Importable (s : List ℕ) (h : Roots) : Type 0 where
  pub spells : Spells s h
  pub names : GoodNames (root_names h)

-- the names met in a text: all of it, or up to where it is not of the form
abbrev pub names_met : List ℕ → Words
names_met s = (joints_met (hierarchy s)).names

-- THE CALL, for every text s and buffer.
pub record ImportKeeps (s out : List ℕ) : Type 0 where
  pub first : (k : ℕ) → ((r : Refusal) × ((number_of r ≡ k) × (import_of s (length out) ≡ Err r))) ↔ First k (import_faults s (length out))
  -- refusals one by one and both ways
  pub numbers : (r : Refusal) → import_of s (length out) ≡ Err r
      → (r ≡ TooManyJoints) ⊎ ((r ≡ OutTooShort) ⊎ ((r ≡ BadHierarchy) ⊎ (r ≡ BadName)))
  pub by_two : import_of s (length out) ≡ Err TooManyJoints ↔ TooMany (names_met s)
  pub by_twenty : import_of s (length out) ≡ Err BadName ↔ ((i : ℕ) × FirstBad (names_met s) i)
  pub by_nineteen : import_of s (length out) ≡ Err BadHierarchy ↔ (GoodNames (names_met s) × ((h : Roots) → Spells s h → ⊥))
  pub by_nine : import_of s (length out) ≡ Err OutTooShort ↔ ((h : Roots) × (Importable s h × (length out < length (sheet_for (joints_in h)))))
  -- a sheet is written exactly if the text has a hierarchy that can be one, and there is room for it
  pub sheet : (size : ℕ) → import_of s (length out) ≡ Ok size
      ↔ ((h : Roots) × (Importable s h × ((size ≡ length (sheet_for (joints_in h))) × (size ≤ length out))))
  -- and it gives back that hierarchy; the bytes behind it stay
  pub gives_back : (size : ℕ) (h : Roots) → import_of s (length out) ≡ Ok size → Spells s h
      → GivesBack h (take size (import_into s out)) × (drop size (import_into s out) ≡ drop size out)
  -- a refusal changes no byte
  pub unchanged : (r : Refusal) → import_of s (length out) ≡ Err r → import_into s out ≡ out
  -- MIRROR_IMPORT_BYTES: 1 + 16 × 128 + 2 + 1 + 128; no sheet is longer, and so much always serves
  pub at_most : (size : ℕ) → import_of s (length out) ≡ Ok size → size ≤ 2180
  pub room : 2180 ≤ length out → import_of s (length out) ≢ Err OutTooShort

abbrev pub ImportKept : Type 0
ImportKept = (s out : List ℕ) → ImportKeeps s out

-- A TEXT CUT SHORT, with a mark at the cut: where it becomes a sheet, the whole text becomes the same one, however it goes on.
abbrev pub CutPasses : Type 0
CutPasses = (s later out : List ℕ) (size : ℕ) → import_of (s ++ (cut_mark ∷ [])) (length out) ≡ Ok size
    → (import_of (s ++ later) (length out) ≡ Ok size) × (import_into (s ++ later) out ≡ import_into (s ++ (cut_mark ∷ [])) out)
