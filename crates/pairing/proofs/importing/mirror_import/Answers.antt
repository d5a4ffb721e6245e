use mathlib.Core.Path.{sym, ap, ◌∙◌}
use Rattle.pairing.specs.CCodes.{imported_code}
use Rattle.pairing.proofs.LawsCCodes.{import_small}
use Rattle.pairing.proofs.importing.mirror_import.Goals as goal

pub imported_code-requires : goal.imported_code-requires
imported_code-requires c =
    λ size e. import_small c.args.text.now c.args.out.now size (sym c.import.ensures.value ∙ e)

pub returns : goal.returns
returns c =
    record { value = c.imported_code.ensures ∙ ap imported_code c.import.ensures.value; out_after = c.import.ensures.out_after }
