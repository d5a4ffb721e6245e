-- The sheet of a hierarchy that a text spells gives it back.
use mathlib.Core.Path.{◌≡◌, refl, ap, ◌∙◌}
use mathlib.Core.List.{List}
use mathlib.Core.Logic.{inr, ◌≢◌}
use Prim.Native.Nat.{ℕ, ◌≤◌, ◌<◌}
use native.Mathlib.Omega.{arith}
use lib.ListN.{length, drop}
use Rattle.base.proofs.Faults.{below_zero}
use Rattle.sections.specs.Labels.{labels_fault}
use Rattle.sections.specs.Entries.{entries_from, entries_fault}
use Rattle.sections.proofs.LabelRule.{labels_rule}
use Rattle.parents.specs.Parents.{parents_fault}
use Rattle.parents.specs.Claims.{OneEach}
use Rattle.parents.proofs.SectionRule.{section_rule}
use Rattle.sheet.specs.Format.{joints, labels_part, rank_count, rankings_part, third}
use Rattle.sheet.specs.Refusals.{sheet_fault}
use Rattle.sheet.proofs.SheetLaws.{by_third, by_parents}
use Rattle.names.specs.Names.{name_of}
use Rattle.names.specs.Claims.{GoodNames}
use Rattle.hierarchy.specs.Spelt.{Roots, root_names, joints_in, Spells}
use Rattle.hierarchy.proofs.Lower.{parents_lower}
use Rattle.bvh.specs.Written.{sheet_for}
use Rattle.bvh.specs.Claims.{GivesBack, SheetGivesBack}
use Rattle.bvh.proofs.NamesHaveBytes.{names_have}
use Rattle.bvh.proofs.SheetLaws.{sheet_joints, sheet_length, sheet_label, sheet_labels, sheet_entries, sheet_end, sheet_third}

module _ (s : List ℕ) (h : Roots) (spells : Spells s h) (good : GoodNames (root_names h)) where
  abbrev n : ℕ
  n = length (root_names h)

  abbrev sheet : List ℕ
  sheet = sheet_for (joints_in h)

  short : (i : ℕ) → i < n → length (name_of (root_names h) i) ≤ 16
  short i l = (good.each i l).short

  has_joints : joints sheet ≡ n
  has_joints = sheet_joints (joints_in h) short

  section : OneEach n (third sheet)
  section =
      let (whole, lower) = parents_lower h in
      rw (sheet_third (joints_in h) short) record { counted = refl; whole = whole; lower = lower }

  clean : entries_fault (rank_count sheet) (joints sheet) (rankings_part sheet) ≡ 0
  clean = rw (sheet_entries (joints_in h) short) (below_zero _)

  no_fault : sheet_fault sheet ≡ 0
  no_fault =
      let j = has_joints in
      let f = good.few in
      let few : joints sheet ≤ 128 = omega arith in
      let long = sheet_length (joints_in h) short in
      let some : length sheet ≢ 0 = λ z. omega arith in
      let end = sheet_end (joints_in h) short in
      let labels : labels_fault (joints sheet) (labels_part sheet) ≡ 0 =
      rw has_joints ((labels_rule n (labels_part sheet)).1 (sheet_labels (joints_in h) good (names_have s h spells))) in
      let (extent, parents) = (section_rule n (third sheet)).1 (inr section) in
      let lie = by_third sheet some few labels (omega arith) (omega arith) 0 extent in
      by_parents sheet lie clean 0 (ap (λ (k : ℕ). parents_fault k (third sheet)) has_joints ∙ parents)

  gives_back : GivesBack h sheet
  unfolding entries_from
  gives_back =
      let many = has_joints in
      let parted = sheet_third (joints_in h) short in
      record {
        accepted = no_fault;
        as_many = many;
        labels = λ i l. sheet_label (joints_in h) short i (omega arith);
        has_parents = λ e. cc;
        parents = ap (drop 1) parted;
        unranked = rw (sheet_entries (joints_in h) short);
      }

pub sheet_gives_back : SheetGivesBack
sheet_gives_back = gives_back
