-- What is left of a list from a place on.
use mathlib.Core.Path.{◌≡◌}
use mathlib.Core.List.{List}
use Prim.Native.Nat.{ℕ, ◌-◌}
use native.Mathlib.Omega.{arith}
use lib.ListN.{length, take, drop, length-drop}
use lib.Seq.{take_all}

-- the rest of a slice from k on, as the code hands it over
pub rest_is : (k : ℕ) (s : List ℕ) → take (length s - k) (drop k s) ≡ drop k s
rest_is k s = take_all (length s - k) (drop k s) (simp length-drop (omega arith))
