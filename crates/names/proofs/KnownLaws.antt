-- Laws of the joints that the code keeps: one joint more, and is a word one of their names?
use mathlib.Core.Path.{◌≡◌, sym, ◌∙◌}
use mathlib.Core.Bool.{Bool, true, false}
use mathlib.Core.List.{List, [], ◌∷◌, ◌++◌, map-append}
use Prim.Native.Nat.{ℕ, zero, suc, ◌<◌}
use native.Mathlib.Omega.{arith}
use lib.ListN.{length, length-map}
use lib.Dec.{eqb}
use lib.Pointwise.{pointwise}
use Rattle.std.specs.List.{list_any}
use Rattle.base.proofs.Cases.{case, both_ways}
use Rattle.base.proofs.Chains.{any_told}
use Rattle.base.proofs.Faults.{fault_passes, last_fault}
use Rattle.words.proofs.MetLaws.{pointwise_same}
use Rattle.names.specs.declared.joints.NamedJoint.{NamedJoint}
use Rattle.names.specs.Names.{is_named, is_known, name_fault, names_fault}
use Rattle.names.specs.Kept.{kept_names}
use Rattle.names.proofs.NameLaws.{names_more}

-- as many names as joints
pub names_length : (joints : List NamedJoint) → length (kept_names joints) ≡ length joints
names_length joints = length-map joints (λ j. j.name.now)

-- a joint more, whose name has no fault behind theirs
pub added_none : (joints : List NamedJoint) {added : List NamedJoint} (joint : NamedJoint) → names_fault (kept_names joints) ≡ 0
    → name_fault (kept_names joints) joint.name.now ≡ 0 → added ≡ joints ++ (joint ∷ []) → names_fault (kept_names added) ≡ 0
added_none joints joint good fit adds =
    rw (adds, map-append (λ j. j.name.now) joints (joint ∷ []))
    (names_more (kept_names joints) joint.name.now ∙ fault_passes _ _ good ∙ last_fault _ ∙ fit)

module _ (w : List ℕ) where
  abbrev pub has_it : NamedJoint → Bool
  has_it joint = pointwise eqb joint.name.now w

  some_has : (joints : List NamedJoint) → list_any has_it joints ≡ true
      → (i : ℕ) × (i < length (kept_names joints)) × (is_named (kept_names joints) w i ≡ true)
  some_has [] e = cc
  some_has (joint ∷ joints) e =
      case (both_ways (has_it joint))
      (λ t. (0, omega arith, sym (pointwise_same joint.name.now w) ∙ t))
      (λ f. let h = some_has joints (rw f at e) in let l = h.1 in (suc h.0, omega arith, h.2))

  none_has : (joints : List NamedJoint) → list_any has_it joints ≡ false → (i : ℕ) → i < length (kept_names joints)
      → is_named (kept_names joints) w i ≡ false
  none_has [] e i l = absurd (omega arith)
  none_has (joint ∷ joints) e zero l =
      case (both_ways (has_it joint)) (λ t. cc) (λ f. sym (pointwise_same joint.name.now w) ∙ f)
  none_has (joint ∷ joints) e (suc i) l =
      case (both_ways (has_it joint)) (λ t. cc) (λ f. none_has joints (rw f at e) i (omega arith))

  pub known_is : (joints : List NamedJoint) → list_any has_it joints ≡ is_known (kept_names joints) w
  unfolding is_known
  known_is joints = any_told _ _ _ (some_has joints) (none_has joints)
