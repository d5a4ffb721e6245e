-- What entries without a fault promise, one by one and in their order.
use mathlib.Core.Path.{◌≡◌, refl, ◌∙◌}
use mathlib.Core.Bool.{true, false, ◌&&◌, ◌||◌, not}
use mathlib.Core.List.{List}
use mathlib.Core.Logic.{inl, inr, ◌≢◌}
use Prim.Native.Nat.{ℕ, zero, suc, ◌-◌, ◌≤◌, ◌<◌}
use native.Mathlib.Numerals.{sub-one}
use native.Mathlib.Omega.{arith}
use lib.Dec.{eqb, ltb, leb}
use borrow.Author.Tests.{ltb-true, ltb-false, leb-false, eqb-true, eqb-false, not-false, lt-ltb, le-ltb, lt-leb, eq-eqb, ne_eqb}
use Rattle.sections.specs.declared.Entry.{Entry}
use Rattle.sections.specs.Entries.{entry_in, after, outside, no_band, misplaced, entry_fault, entries_fault}
use Rattle.sections.specs.Claims.{Sound, Before, EntriesRule}
use Rattle.base.proofs.Cases.{case, eq_ne}
use Rattle.base.proofs.Tests.{or_false, and_true, or_true}
use Rattle.base.specs.Faults.{first_fault}
use Rattle.base.proofs.Faults.{first_none, when_none, below_none, none_below}

-- an entry that is not the first is compared with the one before it
pub misplaced_later : (part : List ℕ) (j : ℕ) → (j ≡ 0 → ⊥) → not (after (entry_in part j) (entry_in part (j - 1))) ≡ misplaced part j
misplaced_later part zero h = absurd (h refl)
misplaced_later part (suc j) h = rw sub-one

inside_sound : (n : ℕ) (e : Entry) → outside n e ≡ false → no_band e ≡ false → Sound n e
inside_sound n e hin hband =
    let (j, rest) = or_false (leb n e.joint) (leb n e.other || eqb e.joint e.other) hin in
    let (o, ne) = or_false (leb n e.other) (eqb e.joint e.other) rest in
    let (low, high) = or_false (eqb e.band 0) (ltb 127 e.band) hband in
    let some : e.band ≢ 0 = eqb-false e.band 0 low in
    record {
      joint_below = leb-false n e.joint j;
      other_below = leb-false n e.other o;
      not_itself = eqb-false e.joint e.other ne;
      band_above = omega arith;
      band_below = ltb-false 127 e.band high;
    }

after_before : (d e : Entry) → after e d ≡ true → Before d e
after_before d e h =
    case (or_true (ltb d.joint e.joint) (eqb d.joint e.joint && ltb d.other e.other) h)
    (λ l. inl (ltb-true d.joint e.joint l))
    (λ both. let (same, l) = and_true (eqb d.joint e.joint) (ltb d.other e.other) both in
    inr (eqb-true d.joint e.joint same, ltb-true d.other e.other l))

-- the tests of an entry without a fault
tests_fail : (n : ℕ) (part : List ℕ) (j : ℕ) → entry_fault n part j ≡ 0
    → (outside n (entry_in part j) ≡ false) × (no_band (entry_in part j) ≡ false) × (misplaced part j ≡ false)
unfolding entry_fault
tests_fail n part j h =
    let (h4, rest) = first_none _ _ h in
    let (h5, more) = first_none _ _ rest in
    let (h6, none) = first_none _ _ more in
    (when_none _ _ h4, when_none _ _ h5, when_none _ _ h6)

pub entry_sound : (m n : ℕ) (part : List ℕ) → entries_fault m n part ≡ 0 → (j : ℕ) → j < m → Sound n (entry_in part j)
entry_sound m n part h j l =
    let t = tests_fail n part j (below_none m (entry_fault n part) h j l) in inside_sound n (entry_in part j) t.0 t.1

pub next_after : (m n : ℕ) (part : List ℕ) → entries_fault m n part ≡ 0
    → (j : ℕ) → suc j < m → Before (entry_in part j) (entry_in part (suc j))
next_after m n part h j l =
    let t = tests_fail n part (suc j) (below_none m (entry_fault n part) h (suc j) l) in
    after_before (entry_in part j) (entry_in part (suc j)) (not-false _ t.2)

pub before_trans : (c d e : Entry) → Before c d → Before d e → Before c e
before_trans c d e h g =
    case h
    (λ l. inl (case g (λ k. omega arith) (λ k. omega arith)))
    (λ s. case g (λ k. inl (omega arith)) (λ k. inr (s.0 ∙ k.0, omega arith)))

-- entries without a fault ascend strictly
pub ascend : (m n : ℕ) (part : List ℕ) → entries_fault m n part ≡ 0
    → (i j : ℕ) → i < j → j < m → Before (entry_in part i) (entry_in part j)
ascend m n part h i zero l k = absurd (omega arith)
ascend m n part h i (suc j) l k =
    case (eq_ne i j)
    (λ e. rw e (next_after m n part h j k))
    (λ ne. before_trans (entry_in part i) (entry_in part j) (entry_in part (suc j))
    (ascend m n part h i j (omega arith) (omega arith)) (next_after m n part h j k))

-- AND THE OTHER WAY: entries that are sound and ascend have no fault
sound_inside : (n : ℕ) (e : Entry) → Sound n e → (outside n e ≡ false) × (no_band e ≡ false)
sound_inside n e s =
    let some : e.band ≢ 0 = let l = s.band_above in λ z. omega arith in
    (rw (lt-leb _ _ s.joint_below, lt-leb _ _ s.other_below, ne_eqb _ _ s.not_itself), rw (ne_eqb _ _ some, le-ltb _ _ s.band_below))

before_after : (d e : Entry) → Before d e → after e d ≡ true
before_after d e h =
    case h
    (λ l. rw (lt-ltb _ _ l))
    (λ s. let g : e.joint ≤ d.joint = omega arith in rw (le-ltb _ _ g, eq-eqb _ _ s.0, lt-ltb _ _ s.1))

-- in a run that ascends no entry is misplaced
in_place : (part : List ℕ) (j : ℕ) → ((i : ℕ) → i < j → Before (entry_in part i) (entry_in part j)) → misplaced part j ≡ false
in_place part zero h = refl
in_place part (suc j) h = rw (before_after (entry_in part j) (entry_in part (suc j)) (h j (omega arith)))

good_entry : (n : ℕ) (part : List ℕ) (j : ℕ) → Sound n (entry_in part j) → misplaced part j ≡ false → entry_fault n part j ≡ 0
unfolding entry_fault first_fault
good_entry n part j s h = let (here, banded) = sound_inside n (entry_in part j) s in rw (here, banded, h)

pub entries_rule : EntriesRule
entries_rule m n part = (
  λ h. record { each = entry_sound m n part h; ascending = ascend m n part h },
  λ g. none_below m (entry_fault n part) (λ j l. good_entry n part j (g.each j l) (in_place part j (λ i k. g.ascending i j k l))),
)
