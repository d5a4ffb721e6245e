-- Row g's sheet, as it prints: the whole of settle on it, by computation; and words by themselves.
use mathlib.Core.Path.{refl}
use Rattle.base.specs.Below.{any_below, all_below, count_below, lowest_from, argmax, joined}
use Rattle.base.specs.Faults.{first_fault, fault_below}
use Rattle.sections.specs.Labels.{visible_run, all_zero, label_ok, same_bytes, repeats, label_bad, labels_fault}
use Rattle.sections.specs.Entries.{entry_in, entries_from, band_in, entry_fault}
use Rattle.square.specs.Mutual.{only}
use Rattle.parents.specs.Parents.{extent_fault, parents_fault}
use Rattle.sheet.specs.Refusals.{sheet_faults, sheet_fault}
use Rattle.sheet.specs.Square.{placed}
use Rattle.matching.specs.Matchings.{paired_joints, alone_count}
use Rattle.roommates.specs.Lists.{best_band, worst_band, first_on, strike_if}
use Rattle.roommates.specs.PhaseOne.{list_waits, proposed, propose_all, receive_all, step, run_out, some_emptied}
use Rattle.roommates.specs.PhaseTwo.{trial, aside_below, none_emptied, cut_at, longest_list}
use Rattle.roommates.specs.Moves.{in_two, end_one, in_one, move, ruled, concluded}
use Rattle.roommates.specs.Left.{partner_on, pairing_of}
use Rattle.records.specs.Records.{records_of, follows, worked_by}
use Rattle.writing.specs.Decimal.{decimal, number_line}
use Rattle.labels.specs.Lines.{label_text, label_line, pair_line}
use Rattle.listing.specs.Text.{pair_part, alone_part, pairing_text}
use Rattle.listing.specs.Sheets.{lists_text, sheet_text}
use Rattle.listing.specs.Claims.{PrintedExample, PhaseOnePrinted, ThirteenPrinted}

pub printed_example : PrintedExample
unfolding any_below all_below count_below lowest_from argmax joined first_fault fault_below visible_run all_zero label_ok
    same_bytes repeats label_bad labels_fault entry_in entries_from band_in entry_fault only extent_fault parents_fault sheet_faults sheet_fault
    placed paired_joints alone_count best_band worst_band first_on strike_if list_waits proposed propose_all receive_all
    step run_out some_emptied trial aside_below none_emptied cut_at longest_list in_two end_one in_one move ruled concluded
    records_of follows worked_by partner_on pairing_of lists_text sheet_text pairing_text number_line decimal pair_part
    alone_part pair_line label_line label_text
printed_example = refl

pub phase_one_printed : PhaseOnePrinted
unfolding number_line decimal
phase_one_printed = refl

pub thirteen_printed : ThirteenPrinted
unfolding number_line decimal
thirteen_printed = refl
