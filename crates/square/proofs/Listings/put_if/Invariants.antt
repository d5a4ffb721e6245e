-- Those that were met and pass are in their places.
use Prim.Native.Nat.{ℕ}
use mathlib.Core.Path.{◌≡◌}
use mathlib.Core.Bool.{Bool}
use Rattle.sections.specs.declared.Entry.{Entry}
use Rattle.square.specs.Mutual.{only}
use Rattle.square.specs.Square.{placed}
use Rattle.square.proofs.Loops.{met}
use Rattle.square.proofs.Listings.put_if.Given as goal

abbrev pub invariant-loop-entry : goal.invariant-loop-entry
invariant-loop-entry g l =
    (passes : ℕ → ℕ → Bool) → ((e : Entry) (r : Bool) → goal.F-post g l.test e r → r ≡ passes e.joint e.other) → l.bands ≡ placed (only passes (met l.yielded))
