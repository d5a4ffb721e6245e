use mathlib.Core.Path.{sym, ap, ◌∙◌}
use Prim.Native.Nat.{ℕ, ◌<◌}
use native.Mathlib.Omega.{arith}
use lib.ListN.{get_or}
use Rattle.pairing.specs.CCodes.{quoted_code}
use Rattle.pairing.proofs.LawsCCodes.{sum_small}
use Rattle.pairing.proofs.quoting.mirror_quote.Goals as goal

pub quoted_code-requires : goal.quoted_code-requires
quoted_code-requires c = λ k e.
    let a = c.args in
    let below : (i : ℕ) → get_or a.tariff.now i 0 < 256 = λ i. let h = c.shared_slice_known-3-1.given i in omega arith in
    sum_small a.sheet.now a.choices.now a.tariff.now a.rebate k below (sym c.quote.ensures ∙ e)

pub returns : goal.returns
returns c = c.quoted_code.ensures ∙ ap quoted_code c.quote.ensures
