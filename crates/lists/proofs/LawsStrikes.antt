-- One more joint: how a strike goes on.
use mathlib.Core.Path.{◌≡◌}
use mathlib.Core.Bool.{Bool, true, false}
use Prim.Native.Nat.{ℕ, ◌+◌}
use native.Mathlib.Numerals.{add-one}
use Rattle.sheet.specs.Square.{at}
use Rattle.roommates.specs.Lists.{Square, struck, strike_if}

module _ (test : ℕ → Bool) (i : ℕ) (t : Square) (q : ℕ) {u : Square} where
  pub strike_hit : u ≡ strike_if test i t q → test (at u q i) ≡ true → struck u q i ≡ strike_if test (i + 1) t q
  unfolding strike_if
  strike_hit e h = rw (add-one i, ← e, h)

  pub strike_miss : u ≡ strike_if test i t q → test (at u q i) ≡ false → u ≡ strike_if test (i + 1) t q
  unfolding strike_if
  strike_miss e h = rw (add-one i, ← e, h)
