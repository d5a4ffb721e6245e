use mathlib.Core.Path.{◌≡◌, refl, sym}
use mathlib.Core.Bool.{Bool, true, false}
use mathlib.Core.List.{List}
use Prim.Native.Nat.{ℕ, ◌+◌, ◌≤◌, ◌<◌}
use native.Mathlib.Numerals.{add-one}
use native.Mathlib.Omega.{arith}
use lib.ListN.{length, take, set, length-set}
use lib.Seq.{take-suc-set, length-take-le}
use Rattle.io.specs.Counts.{IsPrefixLen}
use Rattle.bvh2sheet.specs.Cut.{closed}
use Rattle.bvh2sheet.proofs.close.Goals as goal

counts : (n : ℕ) (l : List ℕ) → n ≤ length l → IsPrefixLen n l
counts n l h = (h, sym (length-take-le n l h))

whole : (s : List ℕ) (ended : Bool) → ended ≡ true → s ≡ closed s ended
unfolding closed
whole s ended e = rw e refl

cut : (s : List ℕ) (n : ℕ) (ended : Bool) → n < length s → ended ≡ false → take (n + 1) (set s n 35) ≡ closed (take n s) ended
unfolding closed
cut s n ended l e = rw (add-one n, e) (take-suc-set s n 35 l)

pub returns-then-ended : goal.returns-then-ended
returns-then-ended c = record { prefix_len = counts _ _ (omega arith); text_after = whole _ _ c.if-ended.true }

pub returns : goal.returns
returns c =
    let same = length-set c.args.text.now c.args.size 35 in
    record { prefix_len = counts _ _ (omega arith); text_after = cut _ _ _ c.requires c.if-ended.false }
