use Rattle.sections.specs.Entries.{entry_in}
use Rattle.sections.proofs.EntryFromArrayU8ENTRYWIDTH.from.Goals as goal

pub returns : goal.returns
unfolding entry_in
returns c = cc
