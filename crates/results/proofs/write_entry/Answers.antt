-- Three bytes, or none.
use native.Mathlib.Omega.{arith}
use Rattle.writing.proofs.Writers.{nothing_puts}
use Rattle.results.proofs.LawsResults.{entry_none, entry_some}
use Rattle.results.proofs.write_entry.Goals as goal

pub returns-then-row-b-eq0 : goal.returns-then-row-b-eq0
returns-then-row-b-eq0 c = rw (entry_none c.args.a c.args.row.now c.args.b c.if-row-b-eq0.true) (nothing_puts _)

pub write-requires : goal.write-requires
write-requires c = record { fits = omega (arith, (rw (entry_some _ _ _ c.if-row-b-eq0.false) at c.requires.1.1).fits) }

pub returns : goal.returns
returns c = rw (entry_some _ _ _ c.if-row-b-eq0.false) c.write.ensures
