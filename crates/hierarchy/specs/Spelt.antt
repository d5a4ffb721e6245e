-- THE FORM of a hierarchy, in document 02's words: how one is spelt. A text is of the form if its words are those of a hierarchy.
use Rattle.std.specs.Prelude.{◌≡◌, true, List, [], ◌∷◌, ◌++◌, ◌⊎◌, ℕ, zero, suc, ◌+◌, length}
use Rattle.parents.specs.Parents.{root}
use Rattle.writing.specs.Claims.{value_after}
use Rattle.words.specs.Words.{Words, words}
use Rattle.words.specs.Met.{all_digits}
use Rattle.headings.specs.Keywords.{
  hierarchy_word,
  root_word,
  joint_word,
  open_word,
  offset_word,
  channels_word,
  end_word,
  site_word,
  close_word,
  motion_word,
}
use Rattle.hierarchy.specs.Hierarchy.{Joints}

-- OFFSET with three words; CHANNELS with a count, of decimal digits only, and that many words
pub record Offset : Type 0 where
  pub x : List ℕ
  pub y : List ℕ
  pub z : List ℕ

pub record Channels : Type 0 where
  pub count : List ℕ
  pub each : Words
  pub digits : all_digits count ≡ true
  pub as_many : value_after 0 count ≡ length each

-- what stands in a block behind its channels, up to its closing brace
pub data Inside : Type 0 where
  nothing : Inside
  end_site : Offset → Inside → Inside
  joint : List ℕ → Offset → Channels → Inside → Inside → Inside

-- the ROOT blocks, one or more
pub data Roots : Type 0 where
  single : List ℕ → Offset → Channels → Inside → Roots
  more : List ℕ → Offset → Channels → Inside → Roots → Roots

abbrev pub spelt_offset : Offset → Words
spelt_offset o = offset_word ∷ o.x ∷ o.y ∷ o.z ∷ []

abbrev pub spelt_heading : Offset → Channels → Words
spelt_heading o c = open_word ∷ (spelt_offset o ++ (channels_word ∷ c.count ∷ c.each))

unfoldable pub spelt_inside : Inside → Words
spelt_inside nothing = close_word ∷ []
spelt_inside (end_site o after) = end_word ∷ site_word ∷ open_word ∷ (spelt_offset o ++ (close_word ∷ spelt_inside after))
spelt_inside (joint name o c inside after) = joint_word ∷ name ∷ (spelt_heading o c ++ (spelt_inside inside ++ spelt_inside after))

unfoldable pub spelt_roots : Roots → Words
spelt_roots (single name o c inside) = root_word ∷ name ∷ (spelt_heading o c ++ spelt_inside inside)
spelt_roots (more name o c inside after) = root_word ∷ name ∷ (spelt_heading o c ++ (spelt_inside inside ++ spelt_roots after))

-- blocks nest so many levels at most inside a block; JOINT nests to depth 32, a root's being 1
unfoldable pub Nests : ℕ → Inside → Type 0
Nests d nothing = record {}
Nests d (end_site o after) = Nests d after
Nests zero (joint name o c inside after) = ⊥
Nests (suc d) (joint name o c inside after) = Nests d inside × Nests (suc d) after

unfoldable pub NestsTo32 : Roots → Type 0
NestsTo32 (single name o c inside) = Nests 31 inside
NestsTo32 (more name o c inside after) = Nests 31 inside × NestsTo32 after

-- THE JOINTS: their names in order of appearance
unfoldable pub names_in : Inside → Words
names_in nothing = []
names_in (end_site o after) = names_in after
names_in (joint name o c inside after) = name ∷ (names_in inside ++ names_in after)

unfoldable pub root_names : Roots → Words
root_names (single name o c inside) = name ∷ names_in inside
root_names (more name o c inside after) = name ∷ (names_in inside ++ root_names after)

-- and for each the number of the block that encloses it; the first joint here has the number k, and stands in block `own`
unfoldable pub enclosing : ℕ → ℕ → Inside → List ℕ
enclosing own k nothing = []
enclosing own k (end_site o after) = enclosing own k after
enclosing own k (joint name o c inside after) = own ∷ (enclosing k (k + 1) inside ++ enclosing own (k + 1 + length (names_in inside)) after)

unfoldable pub root_enclosing : ℕ → Roots → List ℕ
root_enclosing k (single name o c inside) = root ∷ enclosing k (k + 1) inside
root_enclosing k (more name o c inside after) = root ∷ (enclosing k (k + 1) inside ++ root_enclosing (k + 1 + length (names_in inside)) after)

abbrev pub joints_in : Roots → Joints
joints_in h = record { names = root_names h; parents = root_enclosing 0 h }

-- A TEXT WITH A HIERARCHY: the word HIERARCHY and the words of the ROOT blocks; then the text ends, or MOTION comes, and what follows is not read.
pub record Spells (s : List ℕ) (h : Roots) : Type 0 where
  pub nests : NestsTo32 h
  pub after : Words
  pub whole : words s ≡ hierarchy_word ∷ (spelt_roots h ++ after)
  pub ended : (after ≡ []) ⊎ ((motion : Words) × (after ≡ motion_word ∷ motion))
