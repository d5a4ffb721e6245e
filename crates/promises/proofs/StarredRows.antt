-- The starred rows, by computation.
use mathlib.Core.Path.{◌≡◌, refl}
use mathlib.Core.List.{[], ◌∷◌, ◌++◌}
use lib.ListN.{replicate}
use Rattle.base.specs.Below.{any_below, all_below, count_below, sum_below, lowest_from, argmax, joined}
use Rattle.base.specs.Faults.{first_fault, fault_below}
use Rattle.base.specs.Tables.{AllHold}
use Rattle.base.proofs.Tables.{◌&◌}
use Rattle.sections.specs.Labels.{visible_run, all_zero, label_ok, same_bytes, repeats, label_bad, labels_fault}
use Rattle.sections.specs.Entries.{entry_in, entries_from, band_in, entry_fault}
use Rattle.square.specs.Mutual.{only}
use Rattle.parents.specs.Parents.{extent_fault, counted_fault, parents_fault}
use Rattle.sheet.specs.Refusals.{sheet_faults, sheet_fault}
use Rattle.sheet.specs.Square.{placed}
use Rattle.matching.specs.Matchings.{is_paired, is_placed, is_matching, paired_joints, alone_count}
use Rattle.blocking.specs.Blocking.{welcomes, is_apart, blocks, blocker, blocking_pair, is_super_stable}
use Rattle.blocking.specs.Answers.{offer_of}
use Rattle.roommates.specs.Lists.{best_band, worst_band, first_on, strike_if}
use Rattle.roommates.specs.PhaseOne.{list_waits, proposed, propose_all, receive_all, step, run_out, some_emptied}
use Rattle.roommates.specs.PhaseTwo.{trial, aside_below, none_emptied, cut_at, longest_list}
use Rattle.roommates.specs.Moves.{in_two, end_one, in_one, move, ruled, concluded}
use Rattle.roommates.specs.Left.{partner_on, pairing_of, entry, list_bytes}
use Rattle.records.specs.Records.{records_of, stepped, mark_set, returned_to, acts, follows, worked_by}
use Rattle.records.specs.Standing.{step_bytes}
use Rattle.promises.specs.Rows.{is_in, band_from, entries_onward, sheet_of, sheet_g, Holds, rows}

-- the bytes of row g's sheet
pub sheet_g_bytes : sheet_g
    ≡ 4 ∷ (97 ∷ replicate 15 0) ++ (98 ∷ replicate 15 0) ++ (99 ∷ replicate 15 0) ++ (100 ∷ replicate 15 0)
    ++ (8 ∷ 0 ∷ 0 ∷ 1 ∷ 1 ∷ 0 ∷ 3 ∷ 2 ∷ 1 ∷ 0 ∷ 2 ∷ 1 ∷ 2 ∷ 1 ∷ 2 ∷ 1 ∷ 2 ∷ 2 ∷ 3 ∷ 1 ∷ 3 ∷ 0 ∷ 1 ∷ 3 ∷ 2 ∷ 2 ∷ [])
unfolding is_in band_from entries_onward sheet_of joined
sheet_g_bytes = refl

pub starred : AllHold Holds rows
unfolding is_in band_from entries_onward sheet_of any_below all_below count_below sum_below lowest_from argmax joined first_fault
    fault_below visible_run all_zero label_ok same_bytes repeats label_bad labels_fault entry_in entries_from band_in
    entry_fault only extent_fault counted_fault parents_fault sheet_faults sheet_fault placed is_paired is_placed is_matching
    paired_joints alone_count welcomes is_apart blocks blocker blocking_pair is_super_stable offer_of best_band
    worst_band first_on strike_if list_waits proposed propose_all receive_all step run_out some_emptied trial
    aside_below none_emptied cut_at longest_list in_two end_one in_one move ruled concluded step_bytes records_of stepped
    mark_set returned_to acts follows worked_by partner_on pairing_of entry list_bytes
starred =
    (refl, refl) & (refl, refl) & (refl, refl)
    & (refl, refl) & (refl, refl) & (refl, refl)
    & (refl, refl) & (refl, refl) & (refl, refl) & (refl, refl)
    & refl
    & (refl, refl) & (refl, refl) & (refl, refl)
    & (refl, refl) & (refl, refl) & (refl, refl)
    & (refl, refl) & (refl, refl) & (refl, refl)
    & refl & refl & refl & refl
    & refl & refl & refl & refl
    & refl & refl & refl & (refl, refl) & refl & (refl, refl) & (refl, refl) & (refl, refl)
    & (refl, refl) & refl & (refl, refl) & refl & (refl, refl)
    & (refl, refl) & refl & refl & (refl, refl)
    & (refl, refl) & (refl, refl) & (refl, refl) & (refl, refl)
    & (refl, refl) & (refl, refl) & (refl, refl) & refl & refl & refl & (refl, refl)
    & (refl, refl) & (refl, refl) & (refl, refl)
    & refl & refl & refl & refl
    & (refl, refl) & (refl, refl) & (refl, refl) & refl & (refl, refl) & refl & refl & refl & refl
    & record {}
