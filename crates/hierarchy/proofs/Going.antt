-- Between the turns of a reader: of the children of a block, or of the ROOT blocks.
use mathlib.Core.Path.{◌≡◌, refl, ◌∙◌}
use mathlib.Core.List.{List}
use Prim.Native.Nat.{ℕ, zero, suc, ◌≤◌, ◌<◌}
use native.Mathlib.Omega.{arith}
use lib.ListN.{length}
use denote.Ref.{Bor}
use Rattle.std.specs.Prelude.{Result}
use Rattle.refusals.specs.declared.Refusal.{Refusal}
use Rattle.words.specs.Words.{Words, words}
use Rattle.words.specs.Met.{Follows}
use Rattle.words.proofs.MetLaws.{follows_all, follows_on}
use Rattle.names.specs.declared.joints.NamedJoint.{NamedJoint}
use Rattle.names.specs.Names.{names_fault}
use Rattle.names.specs.Kept.{kept_names}
use Rattle.hierarchy.specs.Hierarchy.{Joints, Met}
use Rattle.hierarchy.specs.Gathered.{gathered, Answers, Answered}
use Rattle.hierarchy.proofs.BlockLaws.{from_behind}

-- what `reader` has to read here, in the turns left, is what it had to read from the start
pub record Going (reader : ℕ → Words → Joints → Met) (s : List ℕ) (js₀ : Joints) (rest : List ℕ) (joints : List NamedJoint) : Type 0 where
  pub good : names_fault (kept_names joints) ≡ 0
  pub follows : Follows s rest
  pub same : (f : ℕ) → length s < f → (g : ℕ) × ((length rest < g) × (reader f (words s) js₀ ≡ reader g (words rest) (gathered joints)))

pub begun : (reader : ℕ → Words → Joints → Met) (s : List ℕ) (joints : List NamedJoint) → names_fault (kept_names joints) ≡ 0
    → Going reader s (gathered joints) s joints
begun reader s joints good = record { good = good; follows = follows_all s; same = λ f l. (f, (l, refl)) }

module _ {reader : ℕ → Words → Joints → Met} {s : List ℕ} {js₀ : Joints} {rest : List ℕ} {joints : List NamedJoint}
    (going : Going reader s js₀ rest joints) where
  -- an answer to what is left is the answer
  pub answered : (r : Result (Bor (List ℕ)) Refusal) (joints₁ : List NamedJoint)
      → ((f : ℕ) → length rest ≤ f → Answers rest r joints₁ (reader (suc f) (words rest) (gathered joints)))
      → Answered s r joints₁ (λ f. reader f (words s) js₀)
  answered r joints₁ here f l = let (g, (m, e)) = going.same f l in from_behind r joints₁ _ going.follows (rw e (go g m))
    where
      go : (g : ℕ) → length rest < g → Answers rest r joints₁ (reader g (words rest) (gathered joints))
      go zero m = absurd (omega arith)
      go (suc g) m = here g (omega arith)

  -- a turn that leaves the rest to others leads further
  pub goes_on : {later : List ℕ} {joints₁ : List NamedJoint} → names_fault (kept_names joints₁) ≡ 0 → Follows rest later → length later < length rest
      → ((f : ℕ) → length rest ≤ f → reader (suc f) (words rest) (gathered joints) ≡ reader f (words later) (gathered joints₁))
      → Going reader s js₀ later joints₁
  goes_on {later} {joints₁} good₁ on short here =
      record {
        good = good₁;
        follows = follows_on going.follows on;
        same = λ f l. let (g, (m, e)) = going.same f l in go g m e;
      }
    where
      go : {m : Met} (g : ℕ) → length rest < g → m ≡ reader g (words rest) (gathered joints)
          → (g₁ : ℕ) × ((length later < g₁) × (m ≡ reader g₁ (words later) (gathered joints₁)))
      go zero m e = absurd (omega arith)
      go (suc g) m e = (g, (omega arith, e ∙ here g (omega arith)))
