use mathlib.Core.Path.{sym, ap, ◌∙◌}
use native.Mathlib.Omega.{arith}
use Rattle.pairing.specs.CCodes.{shortened_code}
use Rattle.pairing.proofs.LawsCCodes.{shorten_count_small}
use Rattle.pairing.proofs.shortening.mirror_shorten.Goals as goal

pub found_code-requires : goal.found_code-requires
found_code-requires c = (
  omega arith,
  λ k e.
      let a = c.args in
      shorten_count_small a.sheet.now a.choices.now a.out.now k (sym c.shorten.ensures.value ∙ e),
)

pub returns : goal.returns
returns c =
    record { value = c.found_code.ensures ∙ ap shortened_code c.shorten.ensures.value; out_after = c.shorten.ensures.out_after }
