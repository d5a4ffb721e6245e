-- Laws of the sheet's writers: what they write piece by piece is the sheet.
use mathlib.Core.Path.{◌≡◌, refl, ◌∙◌}
use mathlib.Core.List.{List, [], ◌∷◌, ◌++◌}
use Prim.Native.Nat.{ℕ, ◌+◌, ◌≤◌, ◌<◌}
use native.Mathlib.Omega.{arith}
use lib.ListN.{length, get_or, take, length-map, get_or-map}
use Rattle.base.specs.Below.{joined}
use Rattle.std.proofs.lemmas.List.{get_or_default}
use Rattle.writing.specs.declared.Writer.{Writer}
use Rattle.writing.specs.Written.{HasRoom, Puts}
use Rattle.writing.proofs.Writers.{joined_puts, joined_room, taken_puts, taken_room}
use Rattle.words.specs.Words.{Words}
use Rattle.names.specs.declared.joints.NamedJoint.{NamedJoint}
use Rattle.names.specs.Names.{name_of, names_fault}
use Rattle.names.specs.Kept.{kept_names, kept_parents}
use Rattle.names.proofs.NamesRule.{names_rule}
use Rattle.names.proofs.KnownLaws.{names_length}
use Rattle.hierarchy.specs.Gathered.{gathered}
use Rattle.bvh.specs.Written.{label_for, labels_for, sheet_for}
use Rattle.bvh.specs.Places.{written_size}
use Rattle.bvh.proofs.SheetLaws.{sheet_length}

-- the labels of the first i names
abbrev pub first_labels : Words → ℕ → List ℕ
first_labels names i = joined i (λ j. label_for (name_of names j))

-- JOINT i of those that are written, with the name and the parent that it has
module _ (joints : List NamedJoint) (i : ℕ) (d : NamedJoint) (h : i < length joints) where
  pub name_is : name_of (kept_names joints) i ≡ (get_or joints i d).name.now
  name_is =
      let n = names_length joints in
      get_or_default (kept_names joints) i [] d.name.now (omega arith) ∙ get_or-map (λ j. j.name.now) joints i d

  pub label_room : {w w₁ : Writer} → HasRoom w (labels_for (kept_names joints)) → Puts w (first_labels (kept_names joints) i) w₁
      → HasRoom w₁ (label_for (get_or joints i d).name.now)
  label_room room u = let n = names_length joints in rw name_is at (joined_room i _ u room (omega arith))

  pub label_more : {w w₁ w₂ : Writer} → Puts w (first_labels (kept_names joints) i) w₁ → Puts w₁ (label_for (get_or joints i d).name.now) w₂
      → Puts w (first_labels (kept_names joints) (i + 1)) w₂
  label_more u v = joined_puts i _ u (rw name_is v)

  pub parent_room : {w w₁ : Writer} → HasRoom w (kept_parents joints) → Puts w (take i (kept_parents joints)) w₁
      → HasRoom w₁ ((get_or joints i d).parent ∷ [])
  parent_room room u = let n = length-map joints (λ j. j.parent) in taken_room (kept_parents joints) i (omega arith) u _ room

  pub parent_more : {w w₁ w₂ : Writer} → Puts w (take i (kept_parents joints)) w₁ → Puts w₁ ((get_or joints i d).parent ∷ []) w₂
      → Puts w (take (i + 1) (kept_parents joints)) w₂
  parent_more u v =
      let n = length-map joints (λ j. j.parent) in
      let own : get_or (kept_parents joints) i 0 ≡ (get_or joints i d).parent =
      get_or_default (kept_parents joints) i 0 d.parent (omega arith) ∙ get_or-map (λ j. j.parent) joints i d in
      taken_puts (kept_parents joints) i (omega arith) u (rw own v)

-- THE SHEET of joints, by its pieces, and how long it is
pub sheet_is : (joints : List NamedJoint)
    → sheet_for (gathered joints) ≡ (length joints ∷ []) ++ (labels_for (kept_names joints) ++ ((0 ∷ 0 ∷ length joints ∷ []) ++ kept_parents joints))
unfolding sheet_for
sheet_is joints = rw (names_length joints) refl

-- names without a fault fit labels
module _ (joints : List NamedJoint) (good : names_fault (kept_names joints) ≡ 0) where
  names_fit : (i : ℕ) → i < length (kept_names joints) → length (name_of (kept_names joints) i) ≤ 16
  names_fit i l = (((names_rule (kept_names joints)).0 good).each i l).short

  pub name_fits : (i : ℕ) (d : NamedJoint) → i < length joints → length (get_or joints i d).name.now ≤ 16
  name_fits i d h = let n = names_length joints in rw (← name_is joints i d h) (names_fit i (omega arith))

  pub sheet_size : length (sheet_for (gathered joints)) ≡ written_size (length joints)
  sheet_size =
      let n = names_length joints in
      let each = length-map joints (λ j. j.parent) in
      sheet_length (gathered joints) names_fit ∙ omega arith
