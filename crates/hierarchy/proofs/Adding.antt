-- The joints met when blocks have been read: those met before, and then the blocks'.
use mathlib.Core.Path.{◌≡◌}
use mathlib.Core.List.{List, ◌++◌, append-nil, append_assoc}
use Prim.Native.Nat.{ℕ}
use native.Mathlib.Nat.{add_assoc}
use lib.ListN.{length, length-append}
use Rattle.parents.specs.Parents.{root}
use Rattle.hierarchy.specs.Hierarchy.{Joints, named}
use Rattle.hierarchy.specs.Spelt.{Offset, Channels, Inside, nothing, joint, Roots, single, more, names_in, root_names, enclosing, root_enclosing}

-- what stands in block `own`
abbrev pub adding : Joints → ℕ → Inside → Joints
adding js own i = record { names = js.names ++ names_in i; parents = js.parents ++ enclosing own (length js.names) i }

-- a block with its joint, in a block `above`
abbrev pub adding_block : Joints → List ℕ → ℕ → Inside → Joints
adding_block js name above i = adding (named js name above) (length js.names) i

abbrev pub adding_roots : Joints → Roots → Joints
adding_roots js h = record { names = js.names ++ root_names h; parents = js.parents ++ root_enclosing (length js.names) h }

pub adding_nothing : (js : Joints) (own : ℕ) → adding js own nothing ≡ js
unfolding names_in enclosing
adding_nothing js own = simp append-nil

pub adding_joint : (js : Joints) (name : List ℕ) (own : ℕ) (o : Offset) (c : Channels) (inside after : Inside)
    → adding (adding_block js name own inside) own after ≡ adding js own (joint name o c inside after)
unfolding names_in enclosing
adding_joint js name own o c inside after = simp (append_assoc, length-append, add_assoc)

pub adding_single : (js : Joints) (name : List ℕ) (o : Offset) (c : Channels) (inside : Inside)
    → adding_block js name root inside ≡ adding_roots js (single name o c inside)
unfolding root_names root_enclosing
adding_single js name o c inside = simp (append_assoc, length-append)

pub adding_more : (js : Joints) (name : List ℕ) (o : Offset) (c : Channels) (inside : Inside) (after : Roots)
    → adding_roots (adding_block js name root inside) after ≡ adding_roots js (more name o c inside after)
unfolding root_names root_enclosing
adding_more js name o c inside after = simp (append_assoc, length-append, add_assoc)
