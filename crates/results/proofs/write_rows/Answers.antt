use Rattle.std.proofs.Common.{◌≡◌, arith}
use Rattle.writing.proofs.Writers.{joined_starts, joined_puts, joined_room}
use Rattle.results.proofs.write_rows.Goals as goal

pub loop-a-init : goal.loop-a-init
loop-a-init c = joined_starts _ _

pub write_row-requires : goal.write_row-requires
write_row-requires c = (omega (arith, c.args.n.few), joined_room c.loop-a.a _ c.loop-a.invariant c.requires c.loop-a-test.true)

pub loop-a-preserved : goal.loop-a-preserved
loop-a-preserved c = joined_puts c.loop-a.a _ c.loop-a.invariant c.write_row.ensures

pub returns : goal.returns
returns c = let e : c.loop-a.a ≡ c.args.n.count = omega arith in rw e at c.loop-a.invariant
