-- How the text of a hierarchy is read (document 02, item 7): its words, its blocks, the joints that they name.
use Rattle.std.specs.Prelude.{Bool, true, cond, List, [], ◌∷◌, ◌++◌, ℕ, zero, suc, length, get_or, drop, Some, None}
use Rattle.std.specs.Prelude as found
use Rattle.std.proofs.Math.Option.{Option, none, some}
use Rattle.base.specs.Faults.{first_fault}
use Rattle.sections.specs.Labels.{same_bytes}
use Rattle.parents.specs.Parents.{root}
use Rattle.words.specs.Words.{Words, words}
use Rattle.words.specs.Met.{keyword}
use Rattle.headings.specs.Headings.{heading, site, child_of}
use Rattle.names.specs.Names.{names_fault}
use Rattle.headings.specs.declared.Child.{Child}
use Rattle.headings.specs.declared.Child.TheVariants.{Close, End, Joint}
use Rattle.headings.specs.Keywords.{hierarchy_word, root_word, motion_word}

-- JOINTS, in order of appearance: their names, and for each the number of the block that encloses it, 255 for a root
pub record Joints : Type 0 where
  pub names : Words
  pub parents : List ℕ

abbrev pub no_joints : Joints
no_joints = record { names = []; parents = [] }

abbrev pub named : Joints → List ℕ → ℕ → Joints
named js name above = record { names = js.names ++ (name ∷ []); parents = js.parents ++ (above ∷ []) }

-- WHAT READING MEETS: joints, and then the words left; or the text is not of the form, as met behind those joints
pub data Met : Type 0 where
  left : Words → Joints → Met
  broken : Joints → Met

-- on behind words that must stand there, and behind what was read
unfoldable pub behind : Option Words → Joints → (Words → Met) → Met
behind none js next = broken js
behind (some ws) js next = next ws

unfoldable pub and_then : Met → (Words → Joints → Met) → Met
and_then (left ws js) next = next ws js
and_then (broken js) next = broken js

-- A BLOCK behind its keyword, in a block `above`: its name, its heading, and its children, which `inside` reads for a block of its number
unfoldable pub block : (ℕ → Words → Joints → Met) → ℕ → Words → Joints → Met
block inside above [] js = broken js
block inside above (name ∷ ws) js = behind (heading ws) (named js name above) (λ on. inside (length js.names) on (named js name above))

-- ITS CHILDREN: JOINT blocks and End Sites in any number and order, up to the closing brace. Here behind the first word of one, in block `own`, in
-- which blocks may nest `deeper` levels more; `children` reads on.
unfoldable pub child : found.Option Child → (ℕ → ℕ → Words → Joints → Met) → ℕ → ℕ → Words → Joints → Met
child (Some Close) children deeper own ws js = left ws js
child (Some End) children deeper own ws js = behind (site ws) js (λ on. children deeper own on js)
child (Some Joint) children zero own ws js = broken js
child (Some Joint) children (suc d) own ws js = and_then (block (children d) own ws js) (children (suc d) own)
child None children deeper own ws js = broken js

-- in so many turns: each takes a word
unfoldable pub children : ℕ → ℕ → ℕ → Words → Joints → Met
children zero deeper own ws js = broken js
children (suc f) deeper own ws js = child (child_of (get_or ws 0 [])) (children f) deeper own (drop 1 ws) js

-- ROOT BLOCKS, one or more, up to MOTION or the end. A root has depth 1, and JOINT nests to depth 32.
unfoldable pub ends : Words → Bool
ends [] = true
ends (w ∷ ws) = same_bytes w motion_word

unfoldable pub root_block : ℕ → Words → Joints → Met
root_block f ws js = behind (keyword root_word ws) js (λ on. block (children f 31) root on js)

unfoldable pub roots : ℕ → Words → Joints → Met
roots zero ws js = broken js
roots (suc f) ws js = and_then (root_block (suc f) ws js) (λ on met. cond (ends on) (left on met) (roots f on met))

-- THE HIERARCHY that a text begins with
unfoldable pub hierarchy : List ℕ → Met
hierarchy s = behind (keyword hierarchy_word (words s)) no_joints (λ on. roots (suc (length s)) on no_joints)

-- the joints met, and the first fault as met: 2 and 20 at a name, 19 where the text is not of the form
unfoldable pub joints_met : Met → Joints
joints_met (left ws js) = js
joints_met (broken js) = js

unfoldable pub met_fault : Met → ℕ
met_fault (left ws js) = names_fault js.names
met_fault (broken js) = first_fault (names_fault js.names ∷ 19 ∷ [])
