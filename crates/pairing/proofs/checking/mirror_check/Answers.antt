use mathlib.Core.Path.{sym, ap, ◌∙◌}
use native.Mathlib.Omega.{arith}
use Rattle.pairing.specs.CCodes.{checked_code}
use Rattle.pairing.proofs.LawsCCodes.{check_pair_small}
use Rattle.pairing.proofs.checking.mirror_check.Goals as goal

pub found_code-requires : goal.found_code-requires
found_code-requires c = (omega arith, λ k e. check_pair_small _ _ k (sym c.check.ensures ∙ e))

pub returns : goal.returns
returns c = c.found_code.ensures ∙ ap checked_code c.check.ensures
