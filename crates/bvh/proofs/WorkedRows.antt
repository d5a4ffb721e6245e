-- The worked examples, by computation.
use mathlib.Core.Path.{refl}
use mathlib.Core.Option.{bind}
use Rattle.base.specs.Below.{any_below, joined}
use Rattle.base.specs.Faults.{first_fault, fault_below}
use Rattle.base.specs.Tables.{AllHold}
use Rattle.base.proofs.Tables.{◌&◌}
use Rattle.sections.specs.Labels.{visible_run, same_bytes}
use Rattle.writing.specs.Claims.{value_after}
use Rattle.words.specs.Words.{is_gap, run, words_after}
use Rattle.words.specs.Met.{keyword, any_words, all_digits, counted}
use Rattle.names.specs.Names.{is_name, is_known, is_unfit, name_fault, names_fault}
use Rattle.headings.specs.Headings.{opening, heading, site, child_of}
use Rattle.hierarchy.specs.Hierarchy.{behind, and_then, block, child, children, ends, root_block, roots, hierarchy, joints_met, met_fault}
use Rattle.bvh.specs.Written.{sheet_for}
use Rattle.bvh.specs.Rows.{spaced, Holds, rows}

pub worked : AllHold Holds rows
unfolding bind any_below joined first_fault fault_below visible_run same_bytes value_after is_gap run words_after keyword any_words all_digits counted is_name
    is_known is_unfit name_fault names_fault opening heading site child_of behind and_then block child children ends root_block roots hierarchy joints_met
    met_fault sheet_for spaced
worked =
    (refl, refl) & (refl, refl) & (refl, refl) & (refl, refl) & (refl, refl)
    & (refl, refl) & (refl, refl) & (refl, refl) & (refl, refl) & (refl, refl) & (refl, refl)
    & (refl, refl) & (refl, refl)
    & (refl, refl) & (refl, refl) & (refl, refl)
    & (refl, refl)
    & (refl, refl)
    & record {}
