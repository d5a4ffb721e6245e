-- Entries that ascend are few: each has a rank below n × (n - 1), and the ranks ascend.
use mathlib.Core.Path.{◌≡◌, ◌∙◌}
use mathlib.Core.Bool.{cond}
use mathlib.Core.List.{List}
use Prim.Native.Nat.{ℕ, zero, suc, ◌+◌, ◌*◌, ◌-◌, ◌≤◌, ◌<◌}
use native.Mathlib.Nat.{mul-le-mul_right, suc-mul}
use native.Mathlib.Omega.{arith}
use lib.Dec.{ltb}
use borrow.Author.Tests.{lt-ltb, le-ltb}
use Rattle.base.proofs.Cases.{case, lt_ge}
use Rattle.sections.specs.declared.Entry.{Entry}
use Rattle.sections.specs.Entries.{entry_in, entries_fault}
use Rattle.sections.specs.Claims.{Sound, Before, EntriesFew}
use Rattle.sections.proofs.EntryFaults.{entry_sound, next_after}

-- a candidate's place among those that are not the joint itself
placed : ℕ → ℕ → ℕ
placed a b = cond (ltb a b) (b - 1) b

-- an entry's place among all that n joints may have, k being n - 1
rank : ℕ → Entry → ℕ
rank k e = e.joint * k + placed e.joint e.other

placed_below : (n : ℕ) (e : Entry) → Sound n e → placed e.joint e.other < n - 1
unfolding placed
placed_below n e s =
    let o = s.other_below in
    let j = s.joint_below in
    let ne = s.not_itself in
    case (lt_ge e.joint e.other) (λ l. rw (lt-ltb _ _ l) (omega arith)) (λ g. rw (le-ltb _ _ g) (omega arith))

placed_ascends : (a b c : ℕ) → b < c → (a ≡ b → ⊥) → (a ≡ c → ⊥) → placed a b < placed a c
unfolding placed
placed_ascends a b c h nb nc =
    case (lt_ge a b)
    (λ l. let k : a < c = omega arith in rw (lt-ltb _ _ l, lt-ltb _ _ k) (omega arith))
    (λ g. case (lt_ge a c)
    (λ l. rw (le-ltb _ _ g, lt-ltb _ _ l) (omega arith))
    (λ f. rw (le-ltb _ _ g, le-ltb _ _ f) h))

-- a row of k places begins where the one before it ends
row_next : (a b k : ℕ) → a < b → a * k + k ≤ b * k
row_next a b k h =
    let g : suc a * k ≤ b * k = mul-le-mul_right k h in
    omega (arith, suc-mul a k)

rank_below : (n : ℕ) (e : Entry) → Sound n e → rank (n - 1) e < n * (n - 1)
unfolding rank
rank_below n e s =
    let p = placed_below n e s in
    omega (arith, row_next e.joint n (n - 1) s.joint_below)

rank_ascends : (n : ℕ) (d e : Entry) → Sound n d → Sound n e → Before d e → rank (n - 1) d < rank (n - 1) e
unfolding rank
rank_ascends n d e sd se h =
    case h
    (λ l. let p = placed_below n d sd in omega (arith, row_next d.joint e.joint (n - 1) l))
    (λ s. let p = placed_ascends e.joint d.other e.other s.1 (λ z. sd.not_itself (s.0 ∙ z)) se.not_itself in
    rw s.0 (omega arith))

module _ (m n : ℕ) (part : List ℕ) (clean : entries_fault m n part ≡ 0) where
  rank_at_least : (j : ℕ) → j < m → j ≤ rank (n - 1) (entry_in part j)
  rank_at_least zero l = omega arith
  rank_at_least (suc j) l =
      let sound = entry_sound m n part clean in
      let up = rank_ascends n _ _ (sound j (omega arith)) (sound (suc j) l) (next_after m n part clean j l) in
      let low = rank_at_least j (omega arith) in
      omega arith

pub entries_few : EntriesFew
entries_few zero n part h = omega arith
entries_few (suc m) n part h =
    let low = rank_at_least (suc m) n part h m (omega arith) in
    let high = rank_below n (entry_in part m) (entry_sound (suc m) n part h m (omega arith)) in
    omega arith
