-- What is spelt in the form is read, and its joints are met: by induction over the blocks.
use mathlib.Core.Path.{◌≡◌, refl, ap, ◌∙◌}
use mathlib.Core.Bool.{true, false}
use mathlib.Core.List.{List, ◌∷◌, ◌++◌, append_assoc}
use Prim.Native.Nat.{ℕ, zero, suc, ◌≤◌}
use native.Mathlib.Omega.{arith}
use lib.ListN.{length, length-append}
use Rattle.parents.specs.Parents.{root}
use Rattle.sections.specs.Labels.{same_bytes}
use Rattle.words.specs.Words.{Words}
use Rattle.headings.specs.Keywords.{root_word}
use Rattle.headings.specs.Headings.{child_of}
use Rattle.hierarchy.specs.Hierarchy.{Joints, Met, left, named, behind, and_then, block, child, children, ends, root_block, roots}
use Rattle.hierarchy.specs.Spelt.{
  Offset,
  Channels,
  Inside,
  nothing,
  end_site,
  joint,
  Roots,
  single,
  more,
  spelt_heading,
  spelt_inside,
  spelt_roots,
  Nests,
  NestsTo32,
  names_in,
  enclosing,
}
use Rattle.hierarchy.proofs.MetLaws.{keyword_met, heading_met, site_met}
use Rattle.hierarchy.proofs.Adding.{adding, adding_block, adding_roots, adding_nothing, adding_joint, adding_single, adding_more}

-- A BLOCK: behind its name and its heading, what stands in it is read
block_read : (inside : ℕ → Words → Joints → Met) (above : ℕ) (name : List ℕ) (o : Offset) (c : Channels) (ws : Words) (js : Joints)
    → block inside above (name ∷ (spelt_heading o c ++ ws)) js ≡ inside (length js.names) ws (named js name above)
unfolding block behind
block_read inside above name o c ws js = rw (heading_met o c ws)

-- WHAT STANDS IN A BLOCK, in as many turns as it has words
inside_read : (i : Inside) (f d own : ℕ) (ws : Words) (js : Joints) → Nests d i → length (spelt_inside i) ≤ f
    → children f d own (spelt_inside i ++ ws) js ≡ left ws (adding js own i)
unfolding spelt_inside Nests children child child_of same_bytes behind and_then names_in enclosing
inside_read nothing zero d own ws js n l = absurd (omega arith)
inside_read nothing (suc f) d own ws js n l = rw (adding_nothing js own)
inside_read (end_site o after) zero d own ws js n l = absurd (omega arith)
inside_read (end_site o after) (suc f) d own ws js n l = rw (site_met o (spelt_inside after ++ ws)) (inside_read after f d own ws js n (omega arith))
inside_read (joint name o c inside after) zero d own ws js n l = absurd (omega arith)
inside_read (joint name o c inside after) (suc f) zero own ws js n l = absurd n
inside_read (joint name o c inside after) (suc f) (suc d) own ws js n l =
    let a = length-append (spelt_inside inside) (spelt_inside after) in
    let b = length-append c.each (spelt_inside inside ++ spelt_inside after) in
    let first = inside_read inside f d (length js.names) (spelt_inside after ++ ws) (named js name own) n.0 (omega arith) in
    let next = inside_read after f (suc d) own ws (adding_block js name own inside) n.1 (omega arith) in
    simp append_assoc
    (rw (block_read (children f d) own name o c (spelt_inside inside ++ (spelt_inside after ++ ws)) js, first)
    (next ∙ ap (left ws) (adding_joint js name own o c inside after)))

-- THE ROOT BLOCKS
root_read : (f : ℕ) (name : List ℕ) (o : Offset) (c : Channels) (i : Inside) (ws : Words) (js : Joints) → Nests 31 i → length (spelt_inside i) ≤ f
    → root_block f (root_word ∷ (name ∷ (spelt_heading o c ++ (spelt_inside i ++ ws)))) js ≡ left ws (adding_block js name root i)
unfolding root_block behind
root_read f name o c i ws js n l =
    rw keyword_met
    (block_read (children f 31) root name o c (spelt_inside i ++ ws) js ∙ inside_read i f 31 (length js.names) ws (named js name root) n l)

-- where one begins the hierarchy has not ended
root_goes_on : (h : Roots) (ws : Words) → ends (spelt_roots h ++ ws) ≡ false
unfolding ends spelt_roots same_bytes
root_goes_on (single name o c inside) ws = refl
root_goes_on (more name o c inside after) ws = refl

pub roots_read : (h : Roots) (f : ℕ) (ws : Words) (js : Joints) → NestsTo32 h → ends ws ≡ true → length (spelt_roots h) ≤ f
    → roots f (spelt_roots h ++ ws) js ≡ left ws (adding_roots js h)
unfolding spelt_roots NestsTo32 roots and_then
roots_read (single name o c inside) zero ws js n e l = absurd (omega arith)
roots_read (single name o c inside) (suc f) ws js n e l =
    let a = length-append c.each (spelt_inside inside) in
    simp append_assoc (rw (root_read (suc f) name o c inside ws js n (omega arith), e) (ap (left ws) (adding_single js name o c inside)))
roots_read (more name o c inside after) zero ws js n e l = absurd (omega arith)
roots_read (more name o c inside after) (suc f) ws js n e l =
    let a = length-append (spelt_inside inside) (spelt_roots after) in
    let b = length-append c.each (spelt_inside inside ++ spelt_roots after) in
    let next = roots_read after f ws (adding_block js name root inside) n.1 e (omega arith) in
    simp append_assoc
    (rw (root_read (suc f) name o c inside (spelt_roots after ++ ws) js n.0 (omega arith), root_goes_on after ws)
    (next ∙ ap (left ws) (adding_more js name o c inside after)))
