-- A block in the steps of its reader: one law for each way out.
use mathlib.Core.Path.{◌≡◌, refl, ◌∙◌}
use mathlib.Core.List.{List, [], ◌∷◌, ◌++◌, map-append}
use mathlib.Core.Option.{none, some}
use Prim.Native.Nat.{ℕ, ◌≤◌}
use native.Mathlib.Omega.{arith}
use lib.ListN.{length, length-map}
use denote.Ref.{Bor}
use Rattle.std.specs.Prelude.{Result, Ok, Err}
use Rattle.base.proofs.Faults.{fault_passes, last_fault}
use Rattle.refusals.specs.declared.Refusal.{Refusal}
use Rattle.words.specs.Words.{Words, words}
use Rattle.words.specs.Met.{NextWord, Follows}
use Rattle.words.proofs.MetLaws.{next_follows, follows_on, follows_length}
use Rattle.names.specs.declared.joints.NamedJoint.{NamedJoint}
use Rattle.names.specs.Names.{name_fault, names_fault}
use Rattle.names.specs.Kept.{kept_names}
use Rattle.names.proofs.NameLaws.{names_more}
use Rattle.headings.specs.Headings.{heading}
use Rattle.hierarchy.specs.Hierarchy.{Joints, named, Met, broken, behind, block, children, met_fault}
use Rattle.hierarchy.specs.Gathered.{gathered, Answers, Answered}
use Rattle.hierarchy.proofs.Growth.{Grows, named_fault}

-- where the form is broken behind good names
pub broken_fault : (js : Joints) → names_fault js.names ≡ 0 → met_fault (broken js) ≡ 19
unfolding met_fault
broken_fault js h = fault_passes _ _ h ∙ last_fault 19

-- an answer in what follows is one in the text
pub from_behind : {s t : List ℕ} (r : Result (Bor (List ℕ)) Refusal) (joints : List NamedJoint) (met : Met) → Follows s t → Answers t r joints met
    → Answers s r joints met
from_behind (Ok rest) joints met h a = record { follows = follows_on h a.follows; says = a.says }
from_behind (Err refusal) joints met h a = a

module _ (joints : List NamedJoint) (good : names_fault (kept_names joints) ≡ 0) where
  abbrev js : Joints
  js = gathered joints

  -- no name is left
  pub block_ended : (inside : ℕ → Words → Joints → Met) (above : ℕ) (s : List ℕ) → words s ≡ [] → met_fault (block inside above (words s) js) ≡ 19
  unfolding block
  block_ended inside above s e = rw e (broken_fault js good)

  module _ (joint : NamedJoint) {s rest : List ℕ} (next : NextWord s joint.name.now rest) where
    abbrev more : Joints
    more = named js joint.name.now joint.parent

    more_fault : names_fault more.names ≡ name_fault (kept_names joints) joint.name.now
    more_fault = names_more (kept_names joints) joint.name.now ∙ fault_passes _ _ good ∙ last_fault _

    module _ (inside : ℕ → Words → Joints → Met) where
      behind_name : block inside joint.parent (words s) js ≡ behind (heading (words rest)) more (λ on. inside (length js.names) on more)
      unfolding block
      behind_name = rw next.ahead refl

      -- the name is refused
      pub block_refused : ((own : ℕ) (ws : Words) (ks : Joints) → Grows ks (inside own ws ks)) → {k : ℕ} → name_fault (kept_names joints) joint.name.now ≡ k
          → 1 ≤ k → met_fault (block inside joint.parent (words s) js) ≡ k
      block_refused grows e l = rw behind_name (named_fault (heading (words rest)) more _ (λ on. grows _ on more) (more_fault ∙ e) l)

      -- the form is broken behind the name
      pub block_broken : name_fault (kept_names joints) joint.name.now ≡ 0 → heading (words rest) ≡ none
          → met_fault (block inside joint.parent (words s) js) ≡ 19
      unfolding behind
      block_broken fit h = rw (behind_name, h) (broken_fault more (more_fault ∙ fit))

    -- the name is gathered
    module _ {added : List NamedJoint} (adds : added ≡ joints ++ (joint ∷ [])) where
      gathered_more : gathered added ≡ more
      gathered_more = rw (adds, map-append (λ j. j.name.now) joints (joint ∷ []), map-append (λ j. j.parent) joints (joint ∷ [])) refl

      -- what its children's reader answers is its answer
      pub block_answered : (deeper own : ℕ) → own ≡ length joints → {inside : List ℕ} → (heading (words rest) ≡ some (words inside)) × Follows rest inside
          → (r : Result (Bor (List ℕ)) Refusal) (joints₁ : List NamedJoint) → Answered inside r joints₁ (λ f. children f deeper own (words inside) (gathered added))
          → Answered s r joints₁ (λ f. block (children f deeper) joint.parent (words s) js)
      unfolding behind
      block_answered deeper own k h r joints₁ a f l =
          let in-text = follows_on (next_follows next) h.1 in
          let short = follows_length in-text in
          let n = length-map joints (λ j. j.name.now) in
          let own-is : length js.names ≡ own = omega arith in
          from_behind r joints₁ _ in-text (rw (behind_name (children f deeper), h.0, own-is, ← gathered_more) (a f (omega arith)))
