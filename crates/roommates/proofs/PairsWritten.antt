-- The pairing as it is written: whose partner stands where, how many joints it pairs, and that they come in pairs.
use mathlib.Core.Path.{◌≡◌, ap, sym, ◌∙◌}
use mathlib.Core.Bool.{cond, not}
use mathlib.Core.List.{List}
use Prim.Native.Nat.{ℕ, ◌*◌, ◌≤◌, ◌<◌}
use native.Mathlib.Omega.{arith}
use lib.Dec.{eqb}
use lib.ListN.{length, get_or}
use borrow.Author.Tests.{eq-eqb, ne_eqb, lt-ltb, ltb-true}
use Rattle.base.specs.Below.{lowest}
use Rattle.base.proofs.Cases.{case, lt_ge, eq_ne}
use Rattle.base.proofs.Lowest.{some_passes, lowest_passes}
use Rattle.base.proofs.CountBelow.{count_sum, count_same}
use Rattle.base.proofs.SumBelow.{sum_same}
use Rattle.base.proofs.Joined.{singles_length, single_at}
use Rattle.matching.specs.Matchings.{partner, paired_joints, pair_count}
use Rattle.roommates.specs.Lists.{Square, row, is_listed, list_length}
use Rattle.roommates.specs.Left.{partner_on, pairing_of, listed_joints, entry_count}
use Rattle.roommates.proofs.Rows.{some_listed, listed_some, listed_two}
use Rattle.roommates.proofs.EntryCounts.{entries_even}
use Rattle.roommates.proofs.Sound.{Sound}

-- The partner that a list names: 255 for none, else a joint on it, the only one if there is just one.
pub partner_none : (n : ℕ) (l : List ℕ) → list_length n l ≡ 0 → partner_on n l ≡ 255
unfolding partner_on
partner_none n l e = rw (eq-eqb (list_length n l) 0 e)

listed_first : (n : ℕ) (l : List ℕ) → 0 < list_length n l → partner_on n l ≡ lowest n (is_listed l)
unfolding partner_on
listed_first n l h = rw (ne_eqb (list_length n l) 0 (λ e. omega arith))

pub partner_some : (n : ℕ) (l : List ℕ) → 0 < list_length n l → (partner_on n l < n) × (0 < get_or l (partner_on n l) 0)
partner_some n l h =
    let j : (j : ℕ) × (j < n) × (0 < get_or l j 0) = some_listed n l h in
    let lt : lowest n (is_listed l) < n = some_passes n _ j.0 j.1 (lt-ltb 0 _ j.2) in
    rw (listed_first n l h) (lt, ltb-true 0 _ (lowest_passes n (is_listed l) lt))

pub partner_only : (n : ℕ) (l : List ℕ) → list_length n l ≤ 1 → (c : ℕ) → c < n → 0 < get_or l c 0 → partner_on n l ≡ c
partner_only n l one c lc h =
    let p : (partner_on n l < n) × (0 < get_or l (partner_on n l) 0) = partner_some n l (listed_some n l c lc h) in
    case (eq_ne (partner_on n l) c)
    (λ e. e)
    (λ ne. let two : 2 ≤ list_length n l = listed_two n l (partner_on n l) c p.0 lc ne p.1 h in absurd (omega arith))

module _ (n : ℕ) (t : Square) where
  pub pairing_length : length (pairing_of n t) ≡ n
  unfolding pairing_of
  pairing_length = singles_length n (λ a. partner_on n (row t a))

  pub pairing_at : (a : ℕ) → a < n → partner (pairing_of n t) a ≡ partner_on n (row t a)
  unfolding pairing_of
  pairing_at a = single_at n (λ a. partner_on n (row t a)) a 255

  -- It pairs the joints with a list that is not empty.
  pub unpaired_empty : n ≤ 255 → (a : ℕ) → a < n → eqb (partner (pairing_of n t) a) 255 ≡ eqb (list_length n (row t a)) 0
  unpaired_empty small a la =
      let p : partner (pairing_of n t) a ≡ partner_on n (row t a) = pairing_at a la in
      case (lt_ge 0 (list_length n (row t a)))
      (λ some.
      let lt : partner_on n (row t a) < n = (partner_some n (row t a) some).0 in
      ne_eqb (partner (pairing_of n t) a) 255 (omega arith) ∙ sym (ne_eqb (list_length n (row t a)) 0 (omega arith)))
      (λ none.
      let z : list_length n (row t a) ≡ 0 = omega arith in
      eq-eqb (partner (pairing_of n t) a) 255 (p ∙ partner_none n (row t a) z) ∙ sym (eq-eqb (list_length n (row t a)) 0 z))

  pub paired_listed : n ≤ 255 → paired_joints (pairing_of n t) ≡ listed_joints n t
  unfolding paired_joints
  paired_listed small = rw pairing_length (count_same n _ _ (λ a la. ap not (unpaired_empty small a la)))

-- .. so its count depends on which these are, and on nothing else
pub listed_same : (n : ℕ) (t u : Square)
    → ((a : ℕ) → a < n → 0 < list_length n (row t a) → 0 < list_length n (row u a))
    → ((a : ℕ) → a < n → 0 < list_length n (row u a) → 0 < list_length n (row t a))
    → listed_joints n t ≡ listed_joints n u
listed_same n t u there back = count_same n _ _ (λ a la. ap not (each a la))
  where
    each : (a : ℕ) → a < n → eqb (list_length n (row t a)) 0 ≡ eqb (list_length n (row u a)) 0
    each a la =
        case (lt_ge 0 (list_length n (row t a)))
        (λ some.
        let still : 0 < list_length n (row u a) = there a la some in
        ne_eqb (list_length n (row t a)) 0 (omega arith) ∙ sym (ne_eqb (list_length n (row u a)) 0 (omega arith)))
        (λ none.
        case (lt_ge 0 (list_length n (row u a)))
        (λ some. let was : 0 < list_length n (row t a) = back a la some in absurd (omega arith))
        (λ none'. eq-eqb (list_length n (row t a)) 0 (omega arith) ∙ sym (eq-eqb (list_length n (row u a)) 0 (omega arith))))

-- Where no list has more than one joint, the joints come in pairs, each the other's partner.
abbrev pub AtMostOne : ℕ → Square → Type 0
AtMostOne n t = (a : ℕ) → a < n → list_length n (row t a) ≤ 1

pub listed_entries : (n : ℕ) (t : Square) → AtMostOne n t → listed_joints n t ≡ entry_count n t
listed_entries n t one = count_sum n (λ a. not (eqb (list_length n (row t a)) 0)) ∙ sum_same n _ _ each
  where
    each : (a : ℕ) → a < n → cond (not (eqb (list_length n (row t a)) 0)) 1 0 ≡ list_length n (row t a)
    each a la =
        let few : list_length n (row t a) ≤ 1 = one a la in
        case (lt_ge 0 (list_length n (row t a)))
        (λ some. rw (ne_eqb (list_length n (row t a)) 0 (omega arith)) (omega arith))
        (λ none. rw (eq-eqb (list_length n (row t a)) 0 (omega arith)) (omega arith))

pub pairs_exact : (n : ℕ) (t : Square) → Sound n t → AtMostOne n t → 2 * pair_count (pairing_of n t) ≡ paired_joints (pairing_of n t)
pairs_exact n t s one =
    let few : n ≤ 128 = s.few_joints in
    let e : paired_joints (pairing_of n t) ≡ listed_joints n t = paired_listed n t (omega arith) in
    let g : listed_joints n t ≡ entry_count n t = listed_entries n t one in
    let h = entries_even n t s.both s.not_itself in
    omega arith
