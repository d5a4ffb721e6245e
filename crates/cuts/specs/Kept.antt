-- What a cut leaves, in parts.
use Rattle.std.specs.Prelude.{Bool, true, false}
use Rattle.roommates.specs.Lists.{Square}
use Rattle.roommates.specs.PhaseTwo.{Cut, kept, neither}

-- is a trial kept?
abbrev pub is_kept : Cut → Bool
is_kept (kept u) = true
is_kept neither = false

-- the lists: those before the cut where neither trial is kept
abbrev pub lists_after : Square → Cut → Square
lists_after t (kept u) = u
lists_after t neither = t
