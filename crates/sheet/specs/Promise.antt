-- What an accepted sheet promises of its mutual listings.
use Rattle.std.specs.Prelude.{List, ℕ, ◌≤◌, ◌<◌}
use Rattle.sections.specs.declared.Entry.{Entry}
use Rattle.sections.specs.Entries.{band_in}
use Rattle.sections.specs.Claims.{Sound, Each, Ascending}

-- whoever is listed lists in return
abbrev pub MutualListing : List Entry → Type 0
MutualListing es = (a b : ℕ) → 0 < band_in es a b → 0 < band_in es b a

pub record Promise (n : ℕ) (es : List Entry) : Type 0 where
  pub few_joints : n ≤ 128
  pub each : Each (Sound n) es
  pub ascending : Ascending es
  pub mutual_listing : MutualListing es
