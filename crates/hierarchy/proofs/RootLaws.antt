-- The ROOT blocks in the turns of their reader: one law for each way out.
use mathlib.Core.Path.{◌≡◌, refl, ap}
use mathlib.Core.Bool.{true, false}
use mathlib.Core.List.{List, []}
use mathlib.Core.Option.{none, some}
use Prim.Native.Nat.{ℕ, suc, ◌<◌}
use native.Mathlib.Omega.{arith}
use lib.ListN.{length}
use denote.Ref.{Bor}
use Rattle.std.specs.Prelude.{Result, Ok, Err}
use Rattle.base.proofs.Cases.{case, eq_ne}
use Rattle.refusals.specs.declared.Refusal.{Refusal}
use Rattle.refusals.proofs.Numbers.{number_some}
use Rattle.parents.specs.Parents.{root}
use Rattle.words.specs.Words.{words}
use Rattle.words.specs.Met.{keyword, Follows}
use Rattle.words.proofs.MetLaws.{follows_length, follows_same}
use Rattle.names.specs.declared.joints.NamedJoint.{NamedJoint}
use Rattle.names.specs.Names.{names_fault}
use Rattle.names.specs.Kept.{kept_names}
use Rattle.names.proofs.NameLaws.{names_none}
use Rattle.headings.specs.Keywords.{hierarchy_word, root_word}
use Rattle.hierarchy.specs.Hierarchy.{Joints, no_joints, behind, and_then, block, children, ends, root_block, roots, hierarchy, met_fault}
use Rattle.hierarchy.specs.Gathered.{gathered, Answers, Answered, Shorter}
use Rattle.hierarchy.proofs.MetLaws.{met_keyword}
use Rattle.hierarchy.proofs.Growth.{then_fault, later_grows}
use Rattle.hierarchy.proofs.BlockLaws.{broken_fault, from_behind}
use Rattle.hierarchy.proofs.Going.{Going, answered, goes_on}

-- A ROOT BLOCK: the word is not there
pub root_broken : (s : List ℕ) (joints : List NamedJoint) → names_fault (kept_names joints) ≡ 0 → keyword root_word (words s) ≡ none
    → (f : ℕ) → met_fault (root_block f (words s) (gathered joints)) ≡ 19
unfolding root_block behind
root_broken s joints good h f = rw h (broken_fault (gathered joints) good)

-- its block: what its reader answers is the answer
module _ {s t : List ℕ} (js : Joints) (h : (keyword root_word (words s) ≡ some (words t)) × Follows s t)
    (r : Result (Bor (List ℕ)) Refusal) (joints : List NamedJoint) (a : Answered t r joints (λ f. block (children f 31) root (words t) js)) where
  pub root_answered : Answered s r joints (λ f. root_block f (words s) js)
  unfolding root_block behind
  root_answered f l = let short = follows_length h.1 in from_behind r joints _ h.1 (rw h.0 (a f (omega arith)))

  -- behind a keyword fewer words are left, so what follows is shorter
  shorter : length t < length s
  shorter =
      let fewer = ap {B = ℕ} length (met_keyword root_word (words s) (words t) h.0) in
      let short = follows_length h.1 in
      case (eq_ne (length t) (length s)) (λ e. let same = follows_same h.1 e in let z = ap (λ (l : List ℕ). length (words l)) same in omega arith) (λ ne. omega arith)

  pub root_shorter : Shorter s r
  root_shorter = of r a
    where
      of : (r : Result (Bor (List ℕ)) Refusal) → Answered t r joints (λ f. block (children f 31) root (words t) js) → Shorter s r
      of (Ok rest) b = let short = follows_length (b (suc (length t)) (omega arith)).follows in let less = shorter in omega arith
      of (Err refusal) b = record {}

-- A TURN: a root block is refused, is the last, or others come behind it
module _ {s : List ℕ} {js₀ : Joints} {rest : List ℕ} {joints : List NamedJoint} (going : Going roots s js₀ rest joints) (joints₁ : List NamedJoint) where
  pub roots_refused : (refusal : Refusal) → Answered rest (Err refusal) joints₁ (λ f. root_block f (words rest) (gathered joints))
      → Answered s (Err refusal) joints₁ (λ f. roots f (words s) js₀)
  unfolding roots
  roots_refused refusal a =
      answered going (Err refusal) joints₁ (λ f l. then_fault _ _ (later_grows f) (a (suc f) (omega arith)) (number_some refusal))

  module _ (behind : Bor (List ℕ)) (a : Answered rest (Ok behind) joints₁ (λ f. root_block f (words rest) (gathered joints))) where
    pub roots_ended : ends (words behind.now) ≡ true → Answered s (Ok behind) joints₁ (λ f. roots f (words s) js₀)
    unfolding roots and_then
    roots_ended e =
        answered going (Ok behind) joints₁
        (λ f l. let read = a (suc f) (omega arith) in record { follows = read.follows; says = rw (read.says, e) refl })

    pub roots_on : names_fault (kept_names joints₁) ≡ 0 → length behind.now < length rest → ends (words behind.now) ≡ false → Going roots s js₀ behind.now joints₁
    unfolding roots and_then
    roots_on good₁ less e =
        let read = a (suc (length rest)) (omega arith) in
        goes_on going good₁ read.follows less (λ f l. rw ((a (suc f) (omega arith)).says, e) refl)

-- THE WHOLE
pub whole_broken : (s : List ℕ) → keyword hierarchy_word (words s) ≡ none → met_fault (hierarchy s) ≡ 19
unfolding hierarchy behind
whole_broken s h = rw h (broken_fault no_joints names_none)

pub whole_answered : {s t : List ℕ} {start : List NamedJoint} → start ≡ [] → (keyword hierarchy_word (words s) ≡ some (words t)) × Follows s t
    → (r : Result (Bor (List ℕ)) Refusal) (joints : List NamedJoint) → Answered t r joints (λ f. roots f (words t) (gathered start))
    → Answers s r joints (hierarchy s)
unfolding hierarchy behind
whole_answered {s} {t} {start} e h r joints a =
    let short = follows_length h.1 in
    let same : gathered start ≡ no_joints = rw e refl in
    from_behind r joints _ h.1 (rw (h.0, ← same) (a (suc (length s)) (omega arith)))
