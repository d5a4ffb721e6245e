use Rattle.base.specs.Below.{joined}
use Rattle.sections.specs.Labels.{label_at}
use Rattle.writing.specs.Written.{Puts}
use Rattle.listing.specs.Text.{alone_part}
use Rattle.listing.proofs.lines.Listing.write_alone.Given as goal

abbrev pub invariant-loop-i : goal.invariant-loop-i
invariant-loop-i l = Puts l.initial.out (joined l.i (alone_part (label_at l.self.opened.bytes.now l.self.opened.labels) l.self.partners.now)) l.out
