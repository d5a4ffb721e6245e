-- The square of all entries, then that of those whose return it has.
use Rattle.std.proofs.Common.{rules, true, ap, ◌∙◌}
use lib.Dec.{ltb}
use Rattle.sections.specs.Entries.{entries_in}
use Rattle.square.specs.Square.{at, placed}
use Rattle.square.proofs.Only.{only_all}
use Rattle.square.proofs.Loops.{returned_across}
use Rattle.square.proofs.Listings.fill.Goals as goal

pub returns : goal.returns
returns c =
    let entries = c.args.self.now.entries.now in
    let all = c.put_if.ensures (λ a b. true) (λ e r post. search rules) in
    let listed = c.put_if.new.bands in
    let across = c.put_if-2.ensures (λ a b. ltb 0 (at listed b a)) (λ e r post. search rules) in
    returned_across entries c.args.self.now.inside listed _ (all ∙ ap placed (only_all (entries_in entries))) across
