-- The worked examples, by computation.
use mathlib.Core.Path.{refl}
use Rattle.base.specs.Below.{any_below, all_below, count_below, lowest_from, joined}
use Rattle.base.specs.Faults.{first_fault, fault_below}
use Rattle.base.specs.Tables.{AllHold}
use Rattle.base.proofs.Tables.{◌&◌}
use Rattle.sections.specs.Labels.{visible_run, all_zero, label_ok, same_bytes, repeats, label_bad, labels_fault}
use Rattle.sections.specs.Entries.{entry_in, entries_from, band_in, entry_fault}
use Rattle.square.specs.Mutual.{only}
use Rattle.parents.specs.Parents.{extent_fault, counted_fault, parents_fault}
use Rattle.sheet.specs.Refusals.{sheet_faults, sheet_fault}
use Rattle.sheet.specs.Square.{placed}
use Rattle.matching.specs.Matchings.{is_paired, is_placed, is_matching}
use Rattle.skeleton.specs.Following.{follows, is_stray}
use Rattle.skeleton.specs.Answers.{followed}
use Rattle.skeleton.specs.Rows.{sheet_of, Holds, rows}

pub worked : AllHold Holds rows
unfolding sheet_of any_below all_below count_below lowest_from joined first_fault fault_below visible_run all_zero label_ok same_bytes repeats
    label_bad labels_fault entry_in entries_from band_in entry_fault only extent_fault counted_fault parents_fault sheet_faults sheet_fault placed
    is_paired is_placed is_matching follows is_stray followed
worked =
    refl & refl & refl & refl & refl & refl
    & refl & refl & refl & refl & refl
    & refl & refl & refl & refl & refl
    & refl & refl & refl & refl & refl
    & record {}
