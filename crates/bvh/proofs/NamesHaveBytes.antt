-- Every name that a text gives has a byte: it is one of the text's words, and no word is empty.
use mathlib.Core.Bool.{Bool, true, false}
use mathlib.Core.List.{List, [], ◌∷◌, ◌++◌}
use Prim.Native.Nat.{ℕ, zero, suc, ◌≤◌, ◌<◌}
use native.Mathlib.Omega.{arith}
use lib.ListN.{length}
use Rattle.base.specs.Tables.{AllHold}
use Rattle.base.proofs.Cases.{case, both_ways}
use Rattle.words.specs.Words.{Words, is_gap, words_after}
use Rattle.words.proofs.WordLaws.{byte_run}
use Rattle.names.specs.Names.{name_of}
use Rattle.headings.specs.Keywords.{close_word}
use Rattle.hierarchy.specs.Spelt.{
  Offset,
  Channels,
  Inside,
  nothing,
  end_site,
  joint,
  Roots,
  single,
  more,
  spelt_offset,
  spelt_heading,
  spelt_inside,
  spelt_roots,
  names_in,
  root_names,
  Spells,
}

abbrev HaveBytes : Words → Type 0
HaveBytes = AllHold (λ (w : List ℕ). 1 ≤ length w)

-- WORDS BEHIND WORDS
front_have : (a b : Words) → HaveBytes (a ++ b) → HaveBytes a
front_have [] b h = record {}
front_have (w ∷ a) b h = (h.0, front_have a b h.1)

back_have : (a b : Words) → HaveBytes (a ++ b) → HaveBytes b
back_have [] b h = h
back_have (w ∷ a) b h = back_have a b h.1

append_have : (a b : Words) → HaveBytes a → HaveBytes b → HaveBytes (a ++ b)
append_have [] b h g = g
append_have (w ∷ a) b h g = (h.0, append_have a b h.1 g)

have_at : (ws : Words) → HaveBytes ws → (i : ℕ) → i < length ws → 1 ≤ length (name_of ws i)
have_at [] h i l = absurd (omega arith)
have_at (w ∷ ws) h zero l = h.0
have_at (w ∷ ws) h (suc i) l = have_at ws h.1 i (omega arith)

-- A TEXT'S WORDS
words_have : (begun : Bool) (s : List ℕ) → HaveBytes (words_after begun s)
unfolding words_after
words_have begun [] = record {}
words_have begun (b ∷ s) =
    case (both_ways (is_gap b))
    (λ e. rw e (words_have false s))
    (λ e. case (both_ways begun) (λ y. rw (e, y) (words_have true s)) (λ n. rw (e, n, byte_run b s e) (omega arith, words_have true s)))

-- THE NAMES among the words of blocks: behind a heading come the words of two parts
parts_have : (o : Offset) (c : Channels) (a b : Words) → HaveBytes (spelt_heading o c ++ (a ++ b)) → HaveBytes a × HaveBytes b
parts_have o c a b h = let parts = back_have (spelt_heading o c) (a ++ b) h in (front_have a b parts, back_have a b parts)

inside_have : (i : Inside) → HaveBytes (spelt_inside i) → HaveBytes (names_in i)
unfolding spelt_inside names_in
inside_have nothing h = record {}
inside_have (end_site o after) h = inside_have after (back_have (spelt_offset o) (close_word ∷ spelt_inside after) h.1.1.1).1
inside_have (joint name o c inside after) h =
    let (here, later) = parts_have o c (spelt_inside inside) (spelt_inside after) h.1.1 in
    (h.1.0, append_have (names_in inside) (names_in after) (inside_have inside here) (inside_have after later))

roots_have : (h : Roots) → HaveBytes (spelt_roots h) → HaveBytes (root_names h)
unfolding spelt_roots root_names
roots_have (single name o c inside) h = (h.1.0, inside_have inside (back_have (spelt_heading o c) (spelt_inside inside) h.1.1))
roots_have (more name o c inside after) h =
    let (here, later) = parts_have o c (spelt_inside inside) (spelt_roots after) h.1.1 in
    (h.1.0, append_have (names_in inside) (root_names after) (inside_have inside here) (roots_have after later))

pub names_have : (s : List ℕ) (h : Roots) → Spells s h → (i : ℕ) → i < length (root_names h) → 1 ≤ length (name_of (root_names h) i)
names_have s h p =
    let all = rw p.whole at (words_have false s) in
    have_at (root_names h) (roots_have h (front_have (spelt_roots h) p.after all.1))
