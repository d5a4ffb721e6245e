-- Blocks nest to depth 32 exactly if no joint is deeper by the parents: by induction over the blocks.
use mathlib.Core.Path.{◌≡◌, ◌∙◌}
use mathlib.Core.List.{List, ◌∷◌, ◌++◌}
use mathlib.Core.Logic.{◌↔◌}
use Prim.Native.Nat.{ℕ, zero, suc, ◌+◌, ◌≤◌, ◌<◌}
use native.Mathlib.Nat.{zero-add, add-zero, add_assoc}
use native.Mathlib.Omega.{arith}
use lib.ListN.{length, length-append, get_or-append, get_or-eq_default}
use lib.Seq.{get_or-append-add}
use Rattle.base.proofs.Cases.{case, lt_ge}
use Rattle.parents.specs.Parents.{parent_of}
use Rattle.parents.specs.Claims.{Lower}
use Rattle.parents.specs.Depths.{depth_of}
use Rattle.parents.proofs.DepthRule.{depth_rule}
use Rattle.hierarchy.specs.Spelt.{
  Inside,
  nothing,
  end_site,
  joint,
  Roots,
  single,
  more,
  Nests,
  NestsTo32,
  names_in,
  root_names,
  enclosing,
  root_enclosing,
}
use Rattle.hierarchy.specs.Claims.{NestsByDepth}
use Rattle.hierarchy.proofs.Lower.{inside_each, parents_lower}

-- A PART of the parents, whose first joint has the number k
record Lies (ps : List ℕ) (k : ℕ) (part : List ℕ) : Type 0 where
  each : (j : ℕ) → j < length part → parent_of ps (k + j) ≡ parent_of part j

-- of a block: its joint's parent, and the part behind that
lies_first : {ps : List ℕ} {k p : ℕ} {part : List ℕ} → Lies ps k (p ∷ part) → (parent_of ps k ≡ p) × Lies ps (k + 1) part
lies_first {k} l = (
  rw add-zero at (l.each 0 (omega arith)),
  record { each = λ j h. let e : k + 1 + j ≡ k + suc j = omega arith in rw e (l.each (suc j) (omega arith)) },
)

-- those of the n joints in it, and those of the joints behind it
lies_append : {ps : List ℕ} {k n : ℕ} {a b : List ℕ} → length a ≡ n → Lies ps k (a ++ b) → Lies ps k a × Lies ps (k + n) b
lies_append {a} {b} e l =
    let sum = length-append a b in (
      record { each = λ j h. l.each j (omega arith) ∙ get_or-append a b 255 j h },
      record { each = λ j h. rw (← e, add_assoc) (l.each (length a + j) (omega arith) ∙ get_or-append-add a b j 255) },
    )

-- THE DEPTHS of the joints from one number up to another are d at most
abbrev Within : List ℕ → ℕ → ℕ → ℕ → Type 0
Within ps from to d = (i : ℕ) → from ≤ i → i < to → depth_of ps i ≤ d

-- of a block: its joint's, by which those in it go, and those behind it
within_block : {A B : Type 0} (ps : List ℕ) (k n m d most : ℕ) → depth_of ps k + d ≡ most → A ↔ Within ps (k + 1) (k + 1 + n) (depth_of ps k + d)
    → B ↔ Within ps (k + 1 + n) (k + 1 + n + m) most → (A × B) ↔ Within ps k (k + suc (n + m)) most
within_block ps k n m d most e a b = (
  λ both i from to.
      case (lt_ge i (k + 1))
      (λ h. let same : i ≡ k = omega arith in rw same (omega arith))
      (λ h. case (lt_ge i (k + 1 + n)) (λ l. rw (← e) (a.0 both.0 i h l)) (λ g. b.0 both.1 i g (omega arith))),
  λ all.
      (a.1 (λ i from to. rw e (all i (omega arith) (omega arith))), b.1 (λ i from to. all i (omega arith) (omega arith))),
)

module _ (ps : List ℕ) (lower : Lower ps) where
  -- a joint in block `own`, which is not taken for a root, lies one level deeper
  depth_in_lem : (own k : ℕ) → own < 255 → parent_of ps k ≡ own → depth_of ps k ≡ depth_of ps own + 1
  depth_in_lem own k o e = rw e at ((depth_rule ps lower k).below (λ z. omega arith))

  -- WHAT STANDS IN A BLOCK
  inside_depths : (i : Inside) (own k d : ℕ) → own < 255 → k + length (names_in i) ≤ 255 → Lies ps k (enclosing own k i)
      → Nests d i ↔ Within ps k (k + length (names_in i)) (depth_of ps own + d)
  unfolding Nests names_in enclosing
  inside_depths nothing own k d o r l = (λ n i from to. omega arith, λ w. record {})
  inside_depths (end_site _ after) own k d o r l = inside_depths after own k d o r l
  inside_depths (joint _ _ _ inside after) own k zero o r l =
      let e = depth_in_lem own k o (lies_first l).0 in
      (λ n. absurd n, λ w. absurd (let h = w k (omega arith) (omega arith) in omega arith))
  inside_depths (joint _ _ _ inside after) own k (suc d) o r l =
      let sum = length-append (names_in inside) (names_in after) in
      let (first, rest) = lies_first l in
      let (inner, behind) = lies_append (inside_each inside k (k + 1)) rest in
      let e = depth_in_lem own k o first in
      rw sum
      (within_block ps k (length (names_in inside)) (length (names_in after)) d (depth_of ps own + suc d) (omega arith)
      (inside_depths inside k (k + 1) d (omega arith) (omega arith) inner)
      (inside_depths after own (k + 1 + length (names_in inside)) (suc d) o (omega arith) behind))

  -- THE ROOT BLOCKS
  roots_depths : (h : Roots) (k : ℕ) → k + length (root_names h) ≤ 255 → Lies ps k (root_enclosing k h)
      → NestsTo32 h ↔ Within ps k (k + length (root_names h)) 31
  unfolding NestsTo32 root_names root_enclosing
  roots_depths (single _ _ _ inside) k r l =
      let (first, rest) = lies_first l in
      let e = (depth_rule ps lower k).at_root first in
      let both =
      within_block {B = record {}} ps k (length (names_in inside)) 0 31 31 (omega arith)
      (inside_depths inside k (k + 1) 31 (omega arith) (omega arith) rest)
      (λ u i from to. omega arith, λ w. record {}) in
      (λ n i from to. both.0 (n, record {}) i from (omega arith), λ w. (both.1 (λ i from to. w i from (omega arith))).0)
  roots_depths (more _ _ _ inside after) k r l =
      let sum = length-append (names_in inside) (root_names after) in
      let (first, rest) = lies_first l in
      let (inner, behind) = lies_append (inside_each inside k (k + 1)) rest in
      let e = (depth_rule ps lower k).at_root first in
      rw sum
      (within_block ps k (length (names_in inside)) (length (root_names after)) 31 31 (omega arith)
      (inside_depths inside k (k + 1) 31 (omega arith) (omega arith) inner)
      (roots_depths after (k + 1 + length (names_in inside)) (omega arith) behind))

-- a joint beyond the list is a root
pub nests_by_depth : NestsByDepth
nests_by_depth h few =
    let ps = root_enclosing 0 h in
    let (each, lower) = parents_lower h in
    let all = roots_depths ps lower h 0 (omega arith) (record { each = λ j l. rw zero-add }) in (
      λ n i.
          case (lt_ge i (length (root_names h)))
          (λ l. let m = all.0 n i (omega arith) (omega arith) in omega arith)
          (λ g. let z = (depth_rule ps lower i).at_root (get_or-eq_default ps 255 (omega arith)) in omega arith),
      λ w. all.1 (λ i from to. let m = w i in omega arith),
    )
