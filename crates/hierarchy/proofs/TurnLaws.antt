-- The children of a block in the turns of their reader: one law for each way out of a turn.
use mathlib.Core.Path.{◌≡◌, refl, ◌∙◌}
use mathlib.Core.List.{List, []}
use mathlib.Core.Option.{none, some}
use Prim.Native.Nat.{ℕ, zero, suc, ◌-◌, ◌<◌}
use native.Mathlib.Omega.{arith}
use lib.ListN.{length}
use denote.Ref.{Bor}
use Rattle.std.specs.Prelude.{Ok, Err, Some, None}
use Rattle.std.specs.Prelude as found
use Rattle.refusals.specs.declared.Refusal.{Refusal}
use Rattle.refusals.specs.declared.Refusal.TheVariants.{BadHierarchy}
use Rattle.refusals.proofs.Numbers.{number_some}
use Rattle.words.specs.Words.{Words, words}
use Rattle.words.specs.Met.{NextWord, Follows}
use Rattle.words.proofs.MetLaws.{next_follows, next_shorter, follows_on, follows_length}
use Rattle.names.specs.declared.joints.NamedJoint.{NamedJoint}
use Rattle.names.specs.Names.{names_fault}
use Rattle.names.specs.Kept.{kept_names}
use Rattle.headings.specs.declared.Child.{Child}
use Rattle.headings.specs.declared.Child.TheVariants.{Close, End, Joint}
use Rattle.headings.specs.Headings.{site, child_of}
use Rattle.sections.specs.Labels.{same_bytes}
use Rattle.hierarchy.specs.Hierarchy.{Joints, Met, broken, behind, and_then, block, child, children}
use Rattle.hierarchy.specs.Gathered.{gathered, Answered}
use Rattle.hierarchy.proofs.Growth.{children_grows, then_fault}
use Rattle.hierarchy.proofs.BlockLaws.{broken_fault}
use Rattle.hierarchy.proofs.Going.{Going, answered, goes_on}

-- a JOINT where blocks may nest deeper
nested : (inner : ℕ → ℕ → Words → Joints → Met) (d own : ℕ) (ws : Words) (js : Joints) → (d ≡ 0 → ⊥)
    → child (Some Joint) inner d own ws js ≡ and_then (block (inner (d - 1)) own ws js) (inner d own)
unfolding child
nested inner zero own ws js h = absurd (h refl)
nested inner (suc d) own ws js h = let e : suc d - 1 ≡ d = omega arith in rw e refl

module _ (deeper own : ℕ) {s : List ℕ} {js₀ : Joints} {rest : List ℕ} {joints : List NamedJoint}
    (going : Going (λ f. children f deeper own) s js₀ rest joints) where
  abbrev js : Joints
  js = gathered joints

  -- THE FORM IS BROKEN
  turn_broken : ((f : ℕ) → children (suc f) deeper own (words rest) js ≡ broken js)
      → Answered s (Err BadHierarchy) joints (λ f. children f deeper own (words s) js₀)
  turn_broken h = answered going (Err BadHierarchy) joints (λ f l. rw (h f) (broken_fault js going.good))

  -- where no word is left, none of the words that may stand there comes
  pub turn_ended : words rest ≡ [] → Answered s (Err BadHierarchy) joints (λ f. children f deeper own (words s) js₀)
  unfolding children child child_of same_bytes
  turn_ended e = turn_broken (λ f. rw e refl)

  module _ {word later : List ℕ} (next : NextWord rest word later) where
    turn_is : {c : found.Option Child} → c ≡ child_of word → (f : ℕ) → children (suc f) deeper own (words rest) js ≡ child c (children f) deeper own (words later) js
    unfolding children
    turn_is e f = rw (next.ahead, ← e) refl

    pub turn_other : None ≡ child_of word → Answered s (Err BadHierarchy) joints (λ f. children f deeper own (words s) js₀)
    unfolding child
    turn_other e = turn_broken (turn_is e)

    -- THE BLOCK'S END
    pub turn_close : (behind : Bor (List ℕ)) → behind.now ≡ later → Some Close ≡ child_of word → Answered s (Ok behind) joints (λ f. children f deeper own (words s) js₀)
    unfolding child
    turn_close behind b e =
        answered going (Ok behind) joints (λ f l. record { follows = rw b (next_follows next); says = rw b (turn_is e f) })

    -- AN END SITE
    module _ (e : Some End ≡ child_of word) where
      pub turn_site_broken : site (words later) ≡ none → Answered s (Err BadHierarchy) joints (λ f. children f deeper own (words s) js₀)
      unfolding child behind
      turn_site_broken h = turn_broken (λ f. turn_is e f ∙ rw h refl)

      pub turn_site : {behind : List ℕ} → (site (words later) ≡ some (words behind)) × Follows later behind
          → Going (λ f. children f deeper own) s js₀ behind joints
      unfolding child behind
      turn_site h =
          let short = next_shorter next in
          let shorter = follows_length h.1 in
          goes_on going going.good (follows_on (next_follows next) h.1) (omega arith) (λ f l. turn_is e f ∙ rw h.0 refl)

    -- A JOINT
    module _ (e : Some Joint ≡ child_of word) where
      pub turn_too_deep : deeper ≡ 0 → Answered s (Err BadHierarchy) joints (λ f. children f deeper own (words s) js₀)
      unfolding child
      turn_too_deep h = turn_broken (λ f. turn_is e f ∙ rw h refl)

      -- what is read of its block
      joint_is : (deeper ≡ 0 → ⊥) → (f : ℕ)
          → children (suc f) deeper own (words rest) js ≡ and_then (block (children f (deeper - 1)) own (words later) js) (children f deeper own)
      joint_is some-depth f = turn_is e f ∙ nested (children f) deeper own (words later) js some-depth

      module _ (some-depth : deeper ≡ 0 → ⊥) (joints₁ : List NamedJoint) where
        pub turn_refused : (refusal : Refusal) → Answered later (Err refusal) joints₁ (λ f. block (children f (deeper - 1)) own (words later) js)
            → Answered s (Err refusal) joints₁ (λ f. children f deeper own (words s) js₀)
        turn_refused refusal a =
            let short = next_shorter next in
            answered going (Err refusal) joints₁
            (λ f l. rw (joint_is some-depth f) (then_fault _ _ (children_grows f deeper own) (a f (omega arith)) (number_some refusal)))

        module _ (behind : Bor (List ℕ)) (a : Answered later (Ok behind) joints₁ (λ f. block (children f (deeper - 1)) own (words later) js)) where
          pub joint_shorter : length behind.now < length rest
          joint_shorter =
              let short = next_shorter next in
              let shorter = follows_length (a (length rest) (omega arith)).follows in
              omega arith

          pub turn_joint : names_fault (kept_names joints₁) ≡ 0 → Going (λ f. children f deeper own) s js₀ behind.now joints₁
          unfolding and_then
          turn_joint good₁ =
              let short = next_shorter next in
              let read = a (length rest) (omega arith) in
              goes_on going good₁ (follows_on (next_follows next) read.follows) joint_shorter
              (λ f l. joint_is some-depth f ∙ rw (a f (omega arith)).says refl)
