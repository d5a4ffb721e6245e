use mathlib.Core.Path.{sym, ap, ◌∙◌}
use Rattle.pairing.specs.CCodes.{settled_code}
use Rattle.pairing.proofs.LawsCCodes.{settle_count_small}
use Rattle.pairing.proofs.settling.mirror_settle.Goals as goal

pub settled_code-requires : goal.settled_code-requires
settled_code-requires c = λ k e.
    let a = c.args in
    settle_count_small a.sheet.now a.choices.now a.out.now k (sym c.settle.ensures.value ∙ e)

pub returns : goal.returns
returns c =
    record { value = c.settled_code.ensures ∙ ap settled_code c.settle.ensures.value; out_after = c.settle.ensures.out_after }
