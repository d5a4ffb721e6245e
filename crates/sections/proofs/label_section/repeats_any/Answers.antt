use Rattle.std.proofs.Common.{rules, ◌≡◌, ◌∙◌, ◌<◌, length, take}
use native.Mathlib.Omega.{arith}
use Rattle.std.specs.List.{list_any}
use Rattle.base.proofs.AnyBelow.{any_agree}
use Rattle.sections.specs.Labels.{repeats}
use Rattle.sections.proofs.LabelLaws.{is_again, any_in_front, same_either_way}
use Rattle.sections.proofs.Chunks.{label_in_row}
use Rattle.sections.proofs.label_section.repeats_any.Goals as goal

pub returns : goal.returns
unfolding repeats
returns c =
    let labels = c.args.labels.now in
    let i = c.args.i in
    let told : c.contains.result ≡ list_any (is_again labels i) (take i labels) = search rules in
    told
    ∙ any_in_front _ labels i (omega (arith, c.requires))
    ∙ any_agree i _ _ (λ j l.
    let k : j < length labels = omega (arith, c.requires) in
    rw (label_in_row labels c.told-labels i c.requires, label_in_row labels c.told-labels j k) (same_either_way _ _))
