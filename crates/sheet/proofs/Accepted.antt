-- What a sheet without a fault is: its sections lie where they should, and have none.
use mathlib.Core.Path.{◌≡◌, sym, ◌∙◌}
use mathlib.Core.List.{List}
use mathlib.Core.Logic.{◌≢◌}
use Prim.Native.Nat.{ℕ, ◌*◌, ◌-◌, ◌≤◌, ◌<◌}
use native.Mathlib.Omega.{arith}
use lib.ListN.{length, length-drop}
use borrow.Author.Tests.{ltb-false, eqb-false}
use Rattle.base.proofs.Faults.{first_none, last_fault, when_none}
use Rattle.sections.specs.Entries.{entry_width, entries_fault}
use Rattle.sections.specs.Labels.{labels_fault}
use Rattle.sections.specs.Claims.{GoodLabels}
use Rattle.sections.proofs.LabelRule.{labels_rule}
use Rattle.parents.specs.Parents.{extent_fault, parents_fault}
use Rattle.parents.proofs.SectionRule.{section_rule}
use Rattle.sheet.specs.declared.Parts.{Parts}
use Rattle.sheet.specs.Format.{joints, labels_part, rank_count, rank_start, rankings_part, rank_end, third}
use Rattle.sheet.specs.Refusals.{sheet_faults, sheet_fault, extents_fault}
use Rattle.sheet.specs.Claims.{AcceptedParents}
use Rattle.sheet.proofs.FaultLists.{split_faults}
use Rattle.sheet.proofs.ReadAs.{ReadAs}

-- a sheet whose sections lie where they should
pub record Extents (s : List ℕ) : Type 0 where
  pub not_empty : 0 < length s
  pub few_joints : joints s ≤ 128
  pub labels : GoodLabels (joints s) (labels_part s)
  pub reaches : rank_end s ≤ length s
  pub third_extent : extent_fault (third s) ≡ 0

pub extents_known : (s : List ℕ) → extents_fault s ≡ 0 → Extents s
unfolding extents_fault sheet_faults
extents_known s h =
    let (h1, rest₁) = first_none _ _ h in
    let (h2, rest₂) = first_none _ _ rest₁ in
    let (h3, rest₃) = first_none (labels_fault (joints s) (labels_part s)) _ rest₂ in
    let (h4, rest₄) = first_none _ _ rest₃ in
    let (h5, rest₅) = first_none _ _ rest₄ in
    let some : length s ≢ 0 = eqb-false (length s) 0 (when_none _ _ h1) in
    record {
      not_empty = omega arith;
      few_joints = ltb-false 128 (joints s) (when_none _ _ h2);
      labels = (labels_rule (joints s) (labels_part s)).0 h3;
      reaches = ltb-false (length s) (rank_end s) (when_none _ _ h5);
      third_extent = sym (last_fault (extent_fault (third s))) ∙ rest₅;
    }

-- the part with the entries has them all
pub part_long : (s : List ℕ) → Extents s → entry_width * rank_count s ≤ length (rankings_part s)
part_long s x =
    let e : length (rankings_part s) ≡ length s - rank_start s = length-drop (rank_start s) s in
    let f = x.reaches in
    omega arith

-- the whole sheet
pub record Accepted (s : List ℕ) : Type 0 where
  pub not_empty : 0 < length s
  pub few_joints : joints s ≤ 128
  pub labels : GoodLabels (joints s) (labels_part s)
  pub reaches : rank_end s ≤ length s
  pub third_extent : extent_fault (third s) ≡ 0
  pub faultless : entries_fault (rank_count s) (joints s) (rankings_part s) ≡ 0
  pub parents : parents_fault (joints s) (third s) ≡ 0

pub accepted : (s : List ℕ) → sheet_fault s ≡ 0 → Accepted s
unfolding sheet_fault sheet_faults extents_fault
accepted s h =
    let (lie, rest) = first_none (extents_fault s) _ (sym (split_faults 6 (sheet_faults s)) ∙ h) in
    let (clean, last) = first_none (entries_fault (rank_count s) (joints s) (rankings_part s)) _ rest in
    let x = extents_known s lie in
    record {
      not_empty = x.not_empty;
      few_joints = x.few_joints;
      labels = x.labels;
      reaches = x.reaches;
      third_extent = x.third_extent;
      faultless = clean;
      parents = sym (last_fault (parents_fault (joints s) (third s))) ∙ last;
    }

pub accepted_parents : AcceptedParents
accepted_parents s h = let a = accepted s h in (section_rule (joints s) (third s)).0 (a.third_extent, a.parents)

-- the joints that it is read with are few
pub few_read : (s : List ℕ) (parts : Parts) → ReadAs s parts → parts.joints ≤ 128
few_read s parts r = let few = (accepted s r.faultless).few_joints in let e = r.n_joints in omega arith
