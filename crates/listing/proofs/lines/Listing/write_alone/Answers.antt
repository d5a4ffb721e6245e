use Rattle.std.proofs.Common.{◌≡◌, length, arith}
use Rattle.writing.proofs.Writers.{joined_starts, joined_puts, joined_room}
use Rattle.listing.proofs.lines.Listing.write_alone.Goals as goal

pub loop-i-init : goal.loop-i-init
loop-i-init c = joined_starts _ _

pub write_lone-requires-clause-room : goal.write_lone-requires-clause-room
write_lone-requires-clause-room c = joined_room c.loop-i.i _ c.loop-i.invariant c.requires c.loop-i-test.true

pub loop-i-preserved : goal.loop-i-preserved
loop-i-preserved c = joined_puts c.loop-i.i _ c.loop-i.invariant c.write_lone.ensures

pub returns : goal.returns
returns c = let e : c.loop-i.i ≡ length c.args.self.now.partners.now = omega arith in rw e at c.loop-i.invariant
