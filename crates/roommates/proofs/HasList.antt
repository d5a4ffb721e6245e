-- Whose list is not empty.
use Prim.Native.Nat.{ℕ, ◌<◌}
use Rattle.sheet.specs.Square.{at}
use Rattle.roommates.specs.Lists.{Square, row, list_length}
use Rattle.roommates.proofs.Rows.{some_listed, listed_some}
use Rattle.roommates.proofs.Sound.{Sound}

abbrev pub HasList : ℕ → Square → ℕ → Type 0
HasList n t p = 0 < list_length n (row t p)

pub has_list : {n : ℕ} {t : Square} → Sound n t → (p q : ℕ) → 0 < at t p q → HasList n t p
has_list {n} {t} s p q h = listed_some n (row t p) q (s.inside p q h).1 h

pub on_list : (n : ℕ) (t : Square) (p : ℕ) → HasList n t p → (q : ℕ) × (0 < at t p q)
on_list n t p h = let r : (q : ℕ) × (q < n) × (0 < at t p q) = some_listed n (row t p) h in (r.0, r.2)
