use Rattle.sections.specs.Labels.{label_at}
use Rattle.writing.proofs.Writers.{nothing_puts}
use Rattle.listing.proofs.LineLaws.{alone_listed, alone_paired}
use Rattle.listing.proofs.lines.Listing.write_lone.Goals as goal

pub write_label_line-requires : goal.write_label_line-requires
write_label_line-requires c =
    let a = c.args.self.now in
    rw c.label.ensures (rw (alone_listed (label_at a.opened.bytes.now a.opened.labels) a.partners.now c.args.i c.in-None.ensures) at c.requires.room)

pub returns-in-Some : goal.returns-in-Some
returns-in-Some c =
    let a = c.args.self.now in
    rw (alone_paired (label_at a.opened.bytes.now a.opened.labels) a.partners.now c.args.i c.in-Some.ensures) (nothing_puts _)

pub returns-in-None : goal.returns-in-None
returns-in-None c =
    let a = c.args.self.now in
    rw (alone_listed (label_at a.opened.bytes.now a.opened.labels) a.partners.now c.args.i c.in-None.ensures) (rw c.label.ensures at c.write_label_line.ensures)
