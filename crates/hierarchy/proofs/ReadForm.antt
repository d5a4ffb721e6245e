-- What is read is spelt in the form, and the joints met are its joints: by induction over the turns.
use mathlib.Core.Path.{◌≡◌, refl, sym, ap, ◌∙◌}
use mathlib.Core.Bool.{true}
use mathlib.Core.List.{List, [], ◌∷◌, ◌++◌, append_assoc}
use mathlib.Core.Option.{Option, none, some}
use Prim.Native.Nat.{ℕ, zero, suc}
use lib.ListN.{length}
use Rattle.std.specs.Prelude.{Some, None}
use Rattle.std.specs.Prelude as found
use Rattle.base.proofs.Cases.{case, both_ways}
use Rattle.parents.specs.Parents.{root}
use Rattle.sections.specs.Labels.{same_bytes}
use Rattle.sections.proofs.LabelLaws.{same_equal}
use Rattle.words.specs.Words.{Words}
use Rattle.words.specs.Met.{keyword}
use Rattle.headings.specs.declared.Child.{Child}
use Rattle.headings.specs.declared.Child.TheVariants.{Close, End, Joint}
use Rattle.headings.specs.Keywords.{root_word, joint_word, end_word, close_word}
use Rattle.headings.specs.Headings.{heading, site, child_of}
use Rattle.hierarchy.specs.Hierarchy.{Joints, Met, left, broken, named, behind, and_then, block, child, children, ends, root_block, roots}
use Rattle.hierarchy.specs.Spelt.{
  Offset,
  Channels,
  Inside,
  nothing,
  end_site,
  joint,
  Roots,
  single,
  more,
  spelt_heading,
  spelt_inside,
  spelt_roots,
  Nests,
  NestsTo32,
  names_in,
  enclosing,
}
use Rattle.hierarchy.proofs.MetLaws.{met_keyword, met_heading, met_site}
use Rattle.hierarchy.proofs.Adding.{adding, adding_block, adding_roots, adding_nothing, adding_joint, adding_single, adding_more}

-- what is left behind words that must stand there, and behind what was read
pub left_behind : (o : Option Words) (js : Joints) (next : Words → Met) (ws' : Words) (js' : Joints) → behind o js next ≡ left ws' js'
    → (on : Words) × ((o ≡ some on) × (next on ≡ left ws' js'))
unfolding behind
left_behind none js next ws' js' h = cc
left_behind (some on) js next ws' js' h = (on, (refl, h))

left_then : (m : Met) (next : Words → Joints → Met) (ws' : Words) (js' : Joints) → and_then m next ≡ left ws' js'
    → (on : Words) × ((met : Joints) × ((m ≡ left on met) × (next on met ≡ left ws' js')))
unfolding and_then
left_then (left on met) next ws' js' h = (on, (met, (refl, h)))
left_then (broken js) next ws' js' h = cc

-- WHAT STANDS IN A BLOCK, where it was read; and what so many turns promise
record ReadInside (d own : ℕ) (ws : Words) (js : Joints) (ws' : Words) (js' : Joints) : Type 0 where
  inside : Inside
  nests : Nests d inside
  spelt : ws ≡ spelt_inside inside ++ ws'
  joints : js' ≡ adding js own inside

abbrev ReadsIn : ℕ → Type 0
ReadsIn f = (d own : ℕ) (ws : Words) (js : Joints) (ws' : Words) (js' : Joints) → children f d own ws js ≡ left ws' js' → ReadInside d own ws js ws' js'

-- A BLOCK behind its keyword, in which blocks nest d levels at most
record ReadBlock (d above : ℕ) (ws : Words) (js : Joints) (ws' : Words) (js' : Joints) : Type 0 where
  name : List ℕ
  offset : Offset
  channels : Channels
  inside : Inside
  nests : Nests d inside
  spelt : ws ≡ name ∷ (spelt_heading offset channels ++ (spelt_inside inside ++ ws'))
  joints : js' ≡ adding_block js name above inside

read_block : (f : ℕ) → ReadsIn f → (d above : ℕ) (ws : Words) (js : Joints) (ws' : Words) (js' : Joints) → block (children f d) above ws js ≡ left ws' js'
    → ReadBlock d above ws js ws' js'
unfolding block
read_block f reads d above [] js ws' js' h = cc
read_block f reads d above (name ∷ ws) js ws' js' h =
    let (on, (head, met)) = left_behind (heading ws) _ _ ws' js' h in
    let (o, (c, e)) = met_heading ws on head in
    let r = reads d (length js.names) on (named js name above) ws' js' met in
    let q = r.spelt in
    record { name = name; offset = o; channels = c; inside = r.inside; nests = r.nests; spelt = cc; joints = r.joints }

-- A CHILD's first word
abbrev Begins : found.Option Child → List ℕ → Type 0
Begins (Some Close) w = w ≡ close_word
Begins (Some End) w = w ≡ end_word
Begins (Some Joint) w = w ≡ joint_word
Begins None w = record {}

begins : (w : List ℕ) → Begins (child_of w) w
unfolding child_of
begins w =
    case (both_ways (same_bytes w close_word))
    (λ t. rw t (same_equal w close_word t))
    (λ f.
    case (both_ways (same_bytes w end_word))
    (λ t. rw (f, t) (same_equal w end_word t))
    (λ g.
    case (both_ways (same_bytes w joint_word))
    (λ t. rw (f, g, t) (same_equal w joint_word t))
    (λ n. rw (f, g, n) record {})))

-- a child and what comes behind it
close_ends : (d own : ℕ) (w : List ℕ) (ws : Words) (js : Joints) (ws' : Words) (js' : Joints) → w ≡ close_word → left ws js ≡ left ws' js'
    → ReadInside d own (w ∷ ws) js ws' js'
unfolding spelt_inside Nests
close_ends d own w ws js ws' js' e h =
    let same : js' ≡ js = cc in
    record { inside = nothing; nests = record {}; spelt = cc; joints = same ∙ sym (adding_nothing js own) }

site_first : (d own : ℕ) (w : List ℕ) (ws on : Words) (js : Joints) (ws' : Words) (js' : Joints) → w ≡ end_word → site ws ≡ some on
    → ReadInside d own on js ws' js' → ReadInside d own (w ∷ ws) js ws' js'
unfolding spelt_inside Nests names_in enclosing
site_first d own w ws on js ws' js' e h r =
    let (o, p) = met_site ws on h in
    record { inside = end_site o r.inside; nests = r.nests; spelt = cc r.spelt; joints = r.joints }

joint_first : (d own : ℕ) (w : List ℕ) (ws : Words) (js : Joints) (on : Words) (met : Joints) (ws' : Words) (js' : Joints) → w ≡ joint_word
    → ReadBlock d own ws js on met → ReadInside (suc d) own on met ws' js' → ReadInside (suc d) own (w ∷ ws) js ws' js'
unfolding spelt_inside Nests
joint_first d own w ws js on met ws' js' e b r =
    record {
      inside = joint b.name b.offset b.channels b.inside r.inside;
      nests = (b.nests, r.nests);
      spelt = simp append_assoc (cc (b.spelt, r.spelt));
      joints = r.joints ∙ ap (λ (m : Joints). adding m own r.inside) b.joints
          ∙ adding_joint js b.name own b.offset b.channels b.inside r.inside;
    }

read_child : (f : ℕ) → ReadsIn f → (k : found.Option Child) (d own : ℕ) (w : List ℕ) (ws : Words) (js : Joints) (ws' : Words) (js' : Joints) → Begins k w
    → child k (children f) d own ws js ≡ left ws' js' → ReadInside d own (w ∷ ws) js ws' js'
unfolding child
read_child f reads (Some Close) d own w ws js ws' js' e h = close_ends d own w ws js ws' js' e h
read_child f reads (Some End) d own w ws js ws' js' e h =
    let (on, (met, next)) = left_behind (site ws) js _ ws' js' h in
    site_first d own w ws on js ws' js' e met (reads d own on js ws' js' next)
read_child f reads (Some Joint) zero own w ws js ws' js' e h = cc
read_child f reads (Some Joint) (suc d) own w ws js ws' js' e h =
    let (on, (met, (first, next))) = left_then (block (children f d) own ws js) _ ws' js' h in
    joint_first d own w ws js on met ws' js' e (read_block f reads d own ws js on met first) (reads (suc d) own on met ws' js' next)
read_child f reads None d own w ws js ws' js' e h = cc

read_inside : (f : ℕ) → ReadsIn f
unfolding children child child_of same_bytes
read_inside zero d own ws js ws' js' h = cc
read_inside (suc f) d own [] js ws' js' h = cc
read_inside (suc f) d own (w ∷ ws) js ws' js' h = read_child f (read_inside f) (child_of w) d own w ws js ws' js' (begins w) h

-- THE ROOT BLOCKS, where they were read
pub record ReadRoots (ws : Words) (js : Joints) (ws' : Words) (js' : Joints) : Type 0 where
  pub blocks : Roots
  pub nests : NestsTo32 blocks
  pub spelt : ws ≡ spelt_roots blocks ++ ws'
  pub ended : ends ws' ≡ true
  pub joints : js' ≡ adding_roots js blocks

read_root : (f : ℕ) (ws : Words) (js : Joints) (ws' : Words) (js' : Joints) → root_block f ws js ≡ left ws' js'
    → (on : Words) × ((ws ≡ root_word ∷ on) × ReadBlock 31 root on js ws' js')
unfolding root_block
read_root f ws js ws' js' h =
    let (on, (word, met)) = left_behind (keyword root_word ws) js _ ws' js' h in
    (on, (met_keyword root_word ws on word, read_block f (read_inside f) 31 root on js ws' js' met))

module _ (ws start : Words) (js : Joints) (on : Words) (met : Joints) (ws' : Words) (js' : Joints) (e : ws ≡ root_word ∷ start)
    (b : ReadBlock 31 root start js on met) where
  last_root : ends on ≡ true → left on met ≡ left ws' js' → ReadRoots ws js ws' js'
  unfolding spelt_roots NestsTo32
  last_root t h =
      let same : js' ≡ met = cc in
      record {
        blocks = single b.name b.offset b.channels b.inside;
        nests = b.nests;
        spelt = simp append_assoc (cc b.spelt);
        ended = cc;
        joints = same ∙ b.joints ∙ adding_single js b.name b.offset b.channels b.inside;
      }

  root_first : ReadRoots on met ws' js' → ReadRoots ws js ws' js'
  unfolding spelt_roots NestsTo32
  root_first r =
      record {
        blocks = more b.name b.offset b.channels b.inside r.blocks;
        nests = (b.nests, r.nests);
        spelt = simp append_assoc (cc (b.spelt, r.spelt));
        ended = r.ended;
        joints = r.joints ∙ ap (λ (m : Joints). adding_roots m r.blocks) b.joints
            ∙ adding_more js b.name b.offset b.channels b.inside r.blocks;
      }

pub read_roots : (f : ℕ) (ws : Words) (js : Joints) (ws' : Words) (js' : Joints) → roots f ws js ≡ left ws' js' → ReadRoots ws js ws' js'
unfolding roots
read_roots zero ws js ws' js' h = cc
read_roots (suc f) ws js ws' js' h =
    let (on, (met, (first, next))) = left_then (root_block (suc f) ws js) _ ws' js' h in
    let (start, (e, b)) = read_root (suc f) ws js on met first in
    case (both_ways (ends on))
    (λ t. last_root ws start js on met ws' js' e b t (rw t at next))
    (λ u. root_first ws start js on met ws' js' e b (read_roots f on met ws' js' (rw u at next)))
