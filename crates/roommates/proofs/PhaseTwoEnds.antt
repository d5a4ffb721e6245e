-- Where phase two has ended: its lists are a table for the joints that phase one left with a list. Single lists are a matching that no
-- pair blocks, and a cut of which both trials fail shows that there is none.
use mathlib.Core.Path.{◌≡◌, ◌∙◌}
use mathlib.Core.Bool.{true, false}
use Prim.Native.Nat.{ℕ, ◌≤◌, ◌<◌}
use native.Mathlib.Omega.{arith}
use lib.ListN.{get_or}
use borrow.Author.Tests.{leb-false}
use Rattle.sheet.specs.Square.{at}
use Rattle.base.proofs.Cases.{case, lt_ge, eq_ne}
use Rattle.roommates.specs.Lists.{Square, row, list_length}
use Rattle.roommates.specs.PhaseOne.{Work, some_emptied}
use Rattle.roommates.specs.PhaseTwo.{aside_of, neither, cut_at, longer}
use Rattle.roommates.specs.Runs.{OneEnded, Cuts}
use Rattle.roommates.specs.Left.{pairing_of}
use Rattle.roommates.proofs.Basics.{Stable, On}
use Rattle.roommates.proofs.Rows.{listed_two}
use Rattle.roommates.proofs.Tables.{Table}
use Rattle.roommates.proofs.SingleListsAreStable.{single_stable}
use Rattle.roommates.proofs.MatchingInTable.{matching_in_table}
use Rattle.roommates.proofs.Sound.{Sound, shrunk_sound}
use Rattle.roommates.proofs.CutsStrike.{cuts_shrunk}
use Rattle.roommates.proofs.PairsWritten.{AtMostOne, partner_none, partner_only, pairing_at}
use Rattle.roommates.proofs.HasList.{HasList, has_list, on_list}
use Rattle.roommates.proofs.PhaseOneEnds.{one_sound, one_table, pairs_all, pairs_only}
use Rattle.roommates.proofs.CutsOfTables.{cut_fails, cuts_keep_table}

-- the partner that the pairing of the lists u gives to a joint, 255 for none
abbrev pub partner_in : ℕ → Square → ℕ → ℕ
partner_in n u p = get_or (pairing_of n u) p 255

pub short_lists : (n : ℕ) (u : Square) → ((x : ℕ) → x < n → longer n u x ≡ false) → AtMostOne n u
short_lists n u short x l = let h : list_length n (row u x) < 2 = leb-false 2 (list_length n (row u x)) (short x l) in omega arith

module _ {n : ℕ} {t u : Square} {w : Work} (s : Sound n t) (e : OneEnded n t w) (ok : some_emptied n w ≡ false)
    (made : Cuts n (aside_of n w.lists) w.lists u) where
  sound₁ : Sound n w.lists
  sound₁ = one_sound s e

  pub left_sound : Sound n u
  left_sound = shrunk_sound sound₁ (cuts_shrunk sound₁ made)

  pub left_table : Table (at t) (HasList n w.lists) (at u)
  left_table = cuts_keep_table sound₁ sound₁ made (one_table s e ok)

  pub left_has : (p : ℕ) → HasList n w.lists p → HasList n u p
  left_has p h = has_list left_sound p _ (left_table.has_first p h)

  pub had_list : (p : ℕ) → HasList n u p → HasList n w.lists p
  had_list p h = let r : (q : ℕ) × (0 < at u p q) = on_list n u p h in left_table.listed p r.0 r.1

  pub none_where_both_fail : (x : ℕ) → longer n u x ≡ true → cut_at n (aside_of n w.lists) u x ≡ neither → {M : ℕ → ℕ} → Stable (at t) M → ⊥
  none_where_both_fail x long c {M} stable =
      let r : (M' : ℕ → ℕ) × (Stable (at t) M' × On (at t) (at u) M')
      = matching_in_table left_table stable (pairs_all s e stable) (pairs_only s e stable) n (λ a b h. (s.inside a b h).0) in
      cut_fails left_sound sound₁ left_table x long c s.both r.1.0 r.1.1 (pairs_all s e r.1.0)

  -- a joint without a list is unpaired, and 255 is no joint
  paired_has : (p : ℕ) → 0 < at t p (partner_in n u p) → HasList n w.lists p
  paired_has p h =
      case (lt_ge 0 (list_length n (row u p)))
      (λ l. had_list p l)
      (λ l.
      let m : (p < n) × (partner_in n u p < n) = s.inside p (partner_in n u p) h in
      let z : partner_in n u p ≡ 255 = pairing_at n u p m.0 ∙ partner_none n (row u p) (omega arith) in
      let few : n ≤ 128 = s.few_joints in
      absurd (omega arith))

  module _ (short : AtMostOne n u) where
    single : (p q r : ℕ) → 0 < at u p q → 0 < at u p r → q ≡ r
    single p q r h k = case (eq_ne q r) (λ i. i)
        λ d.
        let m : (p < n) × (q < n) = left_sound.inside p q h in
        let two : 2 ≤ list_length n (row u p) = listed_two n (row u p) q r m.1 (left_sound.inside p r k).1 d h k in
        let one : list_length n (row u p) ≤ 1 = short p m.0 in
        absurd (omega arith)

    pub partner_first : (p : ℕ) → HasList n w.lists p → partner_in n u p ≡ left_table.first p
    partner_first p h =
        let l : 0 < at u p (left_table.first p) = left_table.has_first p h in
        let m : (p < n) × (left_table.first p < n) = left_sound.inside p (left_table.first p) l in
        pairing_at n u p m.0 ∙ partner_only n (row u p) (short p m.0) (left_table.first p) m.1 l

    pub pairing_stable : Stable (at t) (partner_in n u)
    pairing_stable = single_stable left_table single (partner_in n u) partner_first paired_has
