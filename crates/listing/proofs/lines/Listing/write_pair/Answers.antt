use Rattle.std.proofs.Common.{rules}
use Rattle.sections.specs.Labels.{label_at}
use Rattle.writing.proofs.Writers.{nothing_puts}
use Rattle.listing.proofs.LineLaws.{pair_listed, pair_higher, pair_none}
use Rattle.listing.proofs.lines.Listing.write_pair.Goals as goal

pub returns-in-Some : goal.returns-in-Some
returns-in-Some c =
    let a = c.args.self.now in
    rw (pair_listed (label_at a.opened.bytes.now a.opened.labels) a.partners.now c.args.i c.in-Some.ensures c.if-i-p.true)
    (rw (c.label.ensures, c.label-in-Some.ensures) at c.write_pair_line.ensures)

pub write_pair_line-requires : goal.write_pair_line-requires
write_pair_line-requires c =
    let a = c.args.self.now in
    rw (c.label.ensures, c.label-in-Some.ensures)
    (rw (pair_listed (label_at a.opened.bytes.now a.opened.labels) a.partners.now c.args.i c.in-Some.ensures c.if-i-p.true) at c.requires.room)

pub returns-else-i-p : goal.returns-else-i-p
returns-else-i-p c =
    let a = c.args.self.now in
    rw (pair_higher (label_at a.opened.bytes.now a.opened.labels) a.partners.now c.args.i c.in-Some.ensures c.if-i-p.false) (nothing_puts _)

pub returns : goal.returns
returns c =
    let a = c.args.self.now in
    rw (pair_none (label_at a.opened.bytes.now a.opened.labels) a.partners.now c.args.i (search rules)) (nothing_puts _)
