-- Whether some joint received and has an empty list, as a fact.
use mathlib.Core.Path.{◌≡◌}
use mathlib.Core.Bool.{true, false}
use Prim.Native.Nat.{ℕ, ◌<◌}
use native.Mathlib.Omega.{arith}
use lib.Dec.{eqb}
use lib.ListN.{get_or}
use borrow.Author.Tests.{eqb-true, eqb-false, eq-eqb}
use Rattle.sheet.specs.Square.{at}
use Rattle.base.proofs.Cases.{case, lt_ge}
use Rattle.base.proofs.Tests.{and_true}
use Rattle.roommates.specs.Lists.{row, list_length}
use Rattle.roommates.specs.PhaseOne.{Work, is_emptied, some_emptied}
use Rattle.base.proofs.AnyBelow.{any_true, any_none}
use Rattle.roommates.proofs.Rows.{some_listed, empty_places}
use Rattle.roommates.proofs.Sound.{Sound}

pub some_emptied_lem : (n : ℕ) (w : Work) → Sound n w.lists → some_emptied n w ≡ true
    → (a : ℕ) × (a < n) × (get_or w.received a 0 ≡ 1) × ((b : ℕ) → at w.lists a b ≡ 0)
unfolding some_emptied
some_emptied_lem n w s h =
    let r : (a : ℕ) × (a < n) × (is_emptied n w a ≡ true) = any_true n _ h in
    let a = r.0 in
    let l = row w.lists a in
    let e = and_true _ _ r.2 in (
      a,
      r.1,
      eqb-true (get_or w.received a 0) 1 e.0,
      λ b.
          case (lt_ge 0 (at w.lists a b))
          (λ m. empty_places n l (eqb-true (list_length n l) 0 e.1) b (s.inside a b m).1)
          (λ m. omega arith),
    )

pub none_emptied_lem : (n : ℕ) (w : Work) → some_emptied n w ≡ false → (a : ℕ) → a < n → get_or w.received a 0 ≡ 1
    → (b : ℕ) × (0 < at w.lists a b)
unfolding some_emptied
none_emptied_lem n w h a m g =
    let l = row w.lists a in
    let e : is_emptied n w a ≡ false = any_none n _ h a m in
    let d : eqb (list_length n l) 0 ≡ false = rw (eq-eqb (get_or w.received a 0) 1 g) at e in
    case (lt_ge 0 (list_length n l))
    (λ p. let r : (j : ℕ) × (j < n) × (0 < get_or l j 0) = some_listed n l p in (r.0, r.2))
    (λ p. absurd (eqb-false (list_length n l) 0 d (omega arith)))
