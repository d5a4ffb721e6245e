-- The square of a sheet: its mutual listings, each in its place. The theory, the phases and the calls see nothing else of the rankings.
use Rattle.std.specs.Prelude.{List, ℕ}
use Rattle.square.specs.Mutual.{mutual_entries}
use Rattle.sheet.specs.Format.{entries_of}
pub use Rattle.square.specs.Square.{at, SquarePromise}
unfoldable pub use Rattle.square.specs.Square.{placed}

abbrev pub square_of : List ℕ → List (List ℕ)
square_of s = placed (mutual_entries (entries_of s))
