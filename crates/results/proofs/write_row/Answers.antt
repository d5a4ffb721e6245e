use Rattle.std.proofs.Common.{◌≡◌, arith}
use Rattle.writing.proofs.Writers.{joined_starts, joined_puts, joined_room}
use Rattle.results.proofs.write_row.Goals as goal

pub loop-b-init : goal.loop-b-init
loop-b-init c = joined_starts _ _

pub write_entry-requires : goal.write_entry-requires
write_entry-requires c = (c.requires.0, (omega (arith, c.args.n.few), joined_room c.loop-b.b _ c.loop-b.invariant c.requires.1 c.loop-b-test.true))

pub loop-b-preserved : goal.loop-b-preserved
loop-b-preserved c = joined_puts c.loop-b.b _ c.loop-b.invariant c.write_entry.ensures

pub returns : goal.returns
returns c = let e : c.loop-b.b ≡ c.args.n.count = omega arith in rw e at c.loop-b.invariant
