-- Reading only adds joints, so the first fault of names stays the first, whatever is met later.
use mathlib.Core.Path.{◌≡◌, sym, ap, ◌∙◌}
use mathlib.Core.Bool.{Bool, true, false, cond}
use mathlib.Core.List.{List, [], ◌∷◌, ◌++◌, append-nil, append_assoc}
use mathlib.Core.Option.{Option, none, some}
use Prim.Native.Nat.{ℕ, zero, suc, ◌≤◌}
use native.Mathlib.Omega.{arith}
use lib.ListN.{length, get_or, drop}
use Rattle.std.specs.Prelude.{Some, None}
use Rattle.std.specs.Prelude as found
use Rattle.base.proofs.Faults.{fault_stops}
use Rattle.parents.specs.Parents.{root}
use Rattle.words.specs.Words.{Words}
use Rattle.words.specs.Met.{keyword}
use Rattle.names.specs.Names.{names_fault}
use Rattle.names.proofs.NameLaws.{names_stay}
use Rattle.headings.specs.declared.Child.{Child}
use Rattle.headings.specs.declared.Child.TheVariants.{Close, End, Joint}
use Rattle.headings.specs.Keywords.{root_word}
use Rattle.headings.specs.Headings.{heading, site, child_of}
use Rattle.hierarchy.specs.Hierarchy.{Joints, named, Met, left, broken, behind, and_then, block, child, children, ends, root_block, roots, joints_met, met_fault}

-- the joints met are those before, and more
abbrev pub Grows : Joints → Met → Type 0
Grows js m = (later : Words) × ((joints_met m).names ≡ js.names ++ later)

same_grows : (js : Joints) → Grows js (broken js)
unfolding joints_met
same_grows js = ([], sym (append-nil _))

left_grows : (ws : Words) (js : Joints) → Grows js (left ws js)
unfolding joints_met
left_grows ws js = ([], sym (append-nil _))

behind_grows : (found : Option Words) (js : Joints) (next : Words → Met) → ((ws : Words) → Grows js (next ws)) → Grows js (behind found js next)
unfolding behind
behind_grows none js next h = same_grows js
behind_grows (some ws) js next h = h ws

then_grows : (js : Joints) (m : Met) (next : Words → Joints → Met) → Grows js m → ((ws : Words) (ks : Joints) → Grows ks (next ws ks))
    → Grows js (and_then m next)
unfolding and_then joints_met
then_grows js (left ws ks) next (a, e) h =
    let (b, d) = h ws ks in
    (a ++ b, d ∙ ap (λ (l : Words). l ++ b) e ∙ append_assoc js.names a b)
then_grows js (broken ks) next g h = g

named_grows : (js : Joints) (name : List ℕ) (above : ℕ) (m : Met) → Grows (named js name above) m → Grows js m
named_grows js name above m (a, e) = (name ∷ a, e ∙ append_assoc js.names (name ∷ []) a)

block_grows : (inside : ℕ → Words → Joints → Met) → ((own : ℕ) (ws : Words) (js : Joints) → Grows js (inside own ws js))
    → (above : ℕ) (ws : Words) (js : Joints) → Grows js (block inside above ws js)
unfolding block
block_grows inside h above [] js = same_grows js
block_grows inside h above (name ∷ ws) js =
    named_grows js name above _ (behind_grows (heading ws) (named js name above) _ (λ on. h (length js.names) on (named js name above)))

child_grows : (c : found.Option Child) (inner : ℕ → ℕ → Words → Joints → Met) → ((d own : ℕ) (ws : Words) (js : Joints) → Grows js (inner d own ws js))
    → (deeper own : ℕ) (ws : Words) (js : Joints) → Grows js (child c inner deeper own ws js)
unfolding child
child_grows (Some Close) inner h deeper own ws js = left_grows ws js
child_grows (Some End) inner h deeper own ws js = behind_grows (site ws) js _ (λ on. h deeper own on js)
child_grows (Some Joint) inner h zero own ws js = same_grows js
child_grows (Some Joint) inner h (suc d) own ws js = then_grows js _ _ (block_grows (inner d) (h d) own ws js) (h (suc d) own)
child_grows None inner h deeper own ws js = same_grows js

pub children_grows : (f deeper own : ℕ) (ws : Words) (js : Joints) → Grows js (children f deeper own ws js)
unfolding children
children_grows zero deeper own ws js = same_grows js
children_grows (suc f) deeper own ws js =
    child_grows (child_of (get_or ws 0 [])) (children f) (children_grows f) deeper own (drop 1 ws) js

ended_grows : (b : Bool) (on : Words) (js : Joints) (m : Met) → Grows js m → Grows js (cond b (left on js) m)
ended_grows true on js m g = left_grows on js
ended_grows false on js m g = g

roots_grows : (f : ℕ) (ws : Words) (js : Joints) → Grows js (roots f ws js)
unfolding roots root_block
roots_grows zero ws js = same_grows js
roots_grows (suc f) ws js =
    then_grows js _ _
    (behind_grows (keyword root_word ws) js _ (λ on. block_grows (children (suc f) 31) (children_grows (suc f) 31) root on js))
    (λ on ks. ended_grows (ends on) on ks (roots f on ks) (roots_grows f on ks))

pub later_grows : (f : ℕ) (on : Words) (js : Joints) → Grows js (cond (ends on) (left on js) (roots f on js))
later_grows f on js = ended_grows (ends on) on js (roots f on js) (roots_grows f on js)

-- so a fault of the joints before is the first fault of what is met
grown_fault : (js : Joints) (m : Met) {k : ℕ} → Grows js m → names_fault js.names ≡ k → 1 ≤ k → met_fault m ≡ k
unfolding met_fault joints_met
grown_fault js (left ws ks) (more, e) h fault =
    ap names_fault e ∙ names_stay js.names more (λ z. omega (arith, h, z)) ∙ h
grown_fault js (broken ks) (more, e) h fault =
    let f = ap names_fault e ∙ names_stay js.names more (λ z. omega (arith, h, z)) ∙ h in
    fault_stops _ _ (λ z. omega (arith, f, z)) ∙ f

pub then_fault : (m : Met) (next : Words → Joints → Met) {k : ℕ} → ((ws : Words) (ks : Joints) → Grows ks (next ws ks)) → met_fault m ≡ k → 1 ≤ k
    → met_fault (and_then m next) ≡ k
unfolding and_then met_fault
then_fault (left ws js) next grows h fault = grown_fault js (next ws js) (grows ws js) h fault
then_fault (broken js) next grows h fault = h

-- as behind a name, if what is read behind its heading grows
pub named_fault : (found : Option Words) (js : Joints) (next : Words → Met) {k : ℕ} → ((ws : Words) → Grows js (next ws)) → names_fault js.names ≡ k
    → 1 ≤ k → met_fault (behind found js next) ≡ k
named_fault found js next grows h fault = grown_fault js (behind found js next) (behind_grows found js next grows) h fault
