-- The pairing, byte by byte.
use mathlib.Core.List.{List, [], ◌∷◌}
use Prim.Native.Nat.{ℕ}
use Rattle.base.specs.Below.{joined}
use Rattle.writing.specs.Written.{Wrote}
use Rattle.roommates.specs.Lists.{Square, row}
use Rattle.roommates.specs.Left.{partner_on}
use Rattle.results.proofs.write_partners.Given as goal

abbrev pub byte : ℕ → Square → ℕ → List ℕ
byte n t a = partner_on n (row t a) ∷ []

abbrev pub invariant-loop-a : goal.invariant-loop-a
invariant-loop-a l = Wrote l.initial.out 0 (joined l.a (byte l.n.count l.bands)) l.out l.a
