-- What filling a square asks of entries.
use Rattle.std.specs.Prelude.{ℕ, ◌<◌, List}
use Rattle.sections.specs.declared.Entry.{Entry}
use Rattle.sections.specs.Entries.{entries_in}
use Rattle.sections.specs.Claims.{Each}

-- an entry has its place in the square; each of some chunks of three bytes has
abbrev pub Fits : Entry → Type 0
Fits e = (e.joint < 128) × (e.other < 128)

abbrev pub Inside : List (List ℕ) → Type 0
Inside entries = Each Fits (entries_in entries)
