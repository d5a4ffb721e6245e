-- The faults of names mean the request's rule.
use mathlib.Core.Path.{◌≡◌, refl, sym, ◌∙◌}
use mathlib.Core.Bool.{Bool, true, false, not}
use mathlib.Core.List.{List, [], ◌∷◌}
use mathlib.Core.Logic.{◌⊎◌, inl, inr, ◌≢◌}
use Prim.Native.Nat.{ℕ, ◌+◌, ◌≤◌, ◌<◌}
use native.Mathlib.Omega.{arith}
use lib.Dec.{leb, eqb}
use lib.ListN.{length, get_or, take}
use lib.Seq.{length-take-le, take-take, get_or-take}
use borrow.Author.Tests.{leb-true, leb-false, le-leb, lt-leb, eqb-true, eq-eqb, not-false}
use Rattle.base.specs.Faults.{when, first_fault, fault_below}
use Rattle.base.proofs.Cases.{case, eq_ne, lt_ge}
use Rattle.base.proofs.Tests.{never, not_so, or_false, and_true}
use Rattle.base.proofs.AnyBelow.{any_none, none_any}
use Rattle.base.proofs.Faults.{first_none, when_none, below_none, none_below, below_same, below_first, below_hit, below_next}
use Rattle.sections.specs.Labels.{visible_run}
use Rattle.sections.proofs.LabelLaws.{same_true, same_equal}
use Rattle.sections.proofs.LabelRule.{visible_range, range_visible, run_seen, run_is}
use Rattle.words.specs.Words.{Words}
use Rattle.names.specs.Names.{name_of, is_name, is_named, is_known, is_unfit, name_fault, fault_at, names_fault}
use Rattle.names.specs.Claims.{Name, GoodNames, NamesRule, TooMany, FirstBad, NamesRefused}

-- A NAME
name_is : (w : List ℕ) → is_name w ≡ true → Name w
unfolding is_name
name_is w h =
    let (short, all) = and_true (leb (length w) 16) (eqb (visible_run w) (length w)) h in
    let e = eqb-true (visible_run w) (length w) all in
    record { short = leb-true (length w) 16 short; seen = λ i l. visible_range (get_or w i 0) (run_seen w i (omega arith)) }

is_name_lem : (w : List ℕ) → Name w → is_name w ≡ true
unfolding is_name
is_name_lem w r =
    let e = run_is w (length w) (omega arith) (λ i l. range_visible _ (r.seen i l)) (λ i l k. absurd (omega arith)) in
    rw (le-leb (length w) 16 r.short) (eq-eqb (visible_run w) (length w) e)

-- A NAME AFTER OTHERS has no fault exactly if it is one and new, and there is room
fresh : (names : Words) (w : List ℕ) → name_fault names w ≡ 0 → (length names < 128) × (Name w × ((j : ℕ) → j < length names → w ≢ name_of names j))
unfolding name_fault is_unfit is_known
fresh names w h =
    let (many, rest) = first_none _ _ h in
    let (bad, none) = first_none _ _ rest in
    let (form, new) = or_false (not (is_name w)) _ (when_none _ _ bad) in (
      leb-false 128 (length names) (when_none _ _ many),
      (name_is w (not-false _ form), λ j l e. never _ (same_true _ _ (sym e)) (any_none (length names) (is_named names w) new j l)),
    )

fresh_fault : (names : Words) (w : List ℕ) → length names < 128 → Name w → ((j : ℕ) → j < length names → w ≢ name_of names j) → name_fault names w ≡ 0
unfolding name_fault is_unfit is_known first_fault
fresh_fault names w few form new =
    rw (lt-leb 128 (length names) few, is_name_lem w form, none_any (length names) (is_named names w) (λ j l. not_so _ (λ h. new j l (sym (same_equal _ _ h))))) refl

-- which number: 2 exactly where 128 came before
fault_number : (names : Words) (w : List ℕ) → (name_fault names w ≡ 0 → ⊥)
    → ((128 ≤ length names) × (name_fault names w ≡ 2)) ⊎ ((length names < 128) × (name_fault names w ≡ 20))
unfolding name_fault first_fault
fault_number names w h =
    case (lt_ge (length names) 128)
    (λ l. let e = lt-leb 128 (length names) l in
    inr (l, rw e (twenty (is_unfit names w) (rw e at h))))
    (λ g. inl (g, rw (le-leb 128 (length names) g) refl))
  where
    twenty : (b : Bool) → (first_fault (when b 20 ∷ []) ≡ 0 → ⊥) → first_fault (when b 20 ∷ []) ≡ 20
    twenty true f = refl
    twenty false f = absurd (f refl)

-- NAMES
good_is : (names : Words) → names_fault names ≡ 0 → GoodNames names
unfolding names_fault
good_is names h =
    let each : (i : ℕ) → i < length names → _ = λ i l. fresh (take i names) (name_of names i) (below_none (length names) (fault_at names) h i l) in
    record {
      few = case (lt_ge 128 (length names)) (λ l. let (few, rest) = each 128 l in let e = length-take-le 128 names (omega arith) in omega arith) (λ g. g);
      each = λ i l. (each i l).1.0;
      differ = λ i j k l e.
          let n = length-take-le i names (omega arith) in
          (each i l).1.1 j (omega arith) (e ∙ sym (get_or-take i names j [] k));
    }

is_good : (names : Words) → GoodNames names → names_fault names ≡ 0
unfolding names_fault
is_good names g =
    none_below (length names) (fault_at names)
    (λ i l. let n = length-take-le i names (omega arith) in
    let few = g.few in
    fresh_fault (take i names) (name_of names i) (omega arith) (g.each i l)
    (λ j k e. let k' : j < i = omega arith in g.differ i j k' l (e ∙ get_or-take i names j [] k')))

pub names_rule : NamesRule
names_rule names = (good_is names, is_good names)

-- the first i names, in the faults of all
first_names : (names : Words) (i : ℕ) → i ≤ length names → names_fault (take i names) ≡ fault_below i (fault_at names)
unfolding names_fault
first_names names i l =
    rw (length-take-le i names l)
    (below_same i _ _ (λ j k. rw (take-take j i names (omega arith), get_or-take i names j [] k) refl))

-- THE NUMBERS
faults_are : (names : Words) → names_fault names ≡ fault_below (length names) (fault_at names)
unfolding names_fault
faults_are names = refl

-- the first name with a fault, behind good ones: the 129th with 2, or an earlier one with 20
record Refused (names : Words) : Type 0 where
  place : ℕ
  inside : place < length names
  earlier : GoodNames (take place names)
  number : names_fault names ≡ fault_at names place
  which : ((place ≡ 128) × (names_fault names ≡ 2)) ⊎ ((place < 128) × (names_fault names ≡ 20))

refused : (names : Words) → (names_fault names ≡ 0 → ⊥) → Refused names
refused names h =
    let (i, (l, (z, e))) = below_first (length names) (fault_at names) (λ z. h (faults_are names ∙ z)) in
    let number = faults_are names ∙ e in
    let n = length-take-le i names (omega arith) in
    let good = good_is (take i names) (first_names names i (omega arith) ∙ z) in
    let few = good.few in
    record {
      place = i;
      inside = l;
      earlier = good;
      number = number;
      which = case (fault_number (take i names) (name_of names i) (λ f. h (number ∙ f)))
          (λ r. inl (let g = r.0 in omega arith, number ∙ r.1))
          (λ r. inr (let g = r.0 in omega arith, number ∙ r.1));
    }

-- a name that is not good behind good ones is the first with a fault
first_fault_lem : (names : Words) (i : ℕ) → i < length names → GoodNames (take i names) → (fault_at names i ≡ 0 → ⊥) → names_fault names ≡ fault_at names i
first_fault_lem names i l good bad =
    let z = sym (first_names names i (omega arith)) ∙ is_good (take i names) good in
    faults_are names ∙ sym (below_hit (length names) (fault_at names) i l z bad)

too_many : (names : Words) → TooMany names → names_fault names ≡ 2
too_many names t =
    let l = t.1 in
    let n = length-take-le 128 names (omega arith) in
    let bad : fault_at names 128 ≡ 0 → ⊥ = λ z. let f = (fresh (take 128 names) (name_of names 128) z).0 in omega arith in
    first_fault_lem names 128 l t.0 bad
    ∙ case (fault_number (take 128 names) (name_of names 128) bad) (λ r. r.1) (λ r. let f = r.0 in omega arith)

first_bad : (names : Words) (i : ℕ) → FirstBad names i → names_fault names ≡ 20
first_bad names i r =
    let l = r.inside in
    let few = r.few in
    let n = length-take-le i names (omega arith) in
    let none = sym (first_names names i (omega arith)) ∙ is_good (take i names) r.earlier in
    let bad : fault_at names i ≡ 0 → ⊥ =
    λ z. r.bad (good_is (take (i + 1) names) (first_names names (i + 1) (omega arith) ∙ below_next i _ none z)) in
    first_fault_lem names i l r.earlier bad
    ∙ case (fault_number (take i names) (name_of names i) bad) (λ q. let f = q.0 in omega arith) (λ q. q.1)

pub names_refused : NamesRefused
names_refused names = record {
  number = case (eq_ne (names_fault names) 0) inl (λ h. inr (case (refused names h).which (λ r. inl r.1) (λ r. inr r.1)));
  two = (
    λ h. let r = refused names (λ z. let e = h in omega arith) in
        case r.which
        (λ w. let good : GoodNames (take 128 names) = rw w.0 at r.earlier in
        let l = r.inside in
        let e = w.0 in
        (good, omega arith))
        (λ w. let e = w.1 in absurd (omega arith)),
    too_many names,
  );
  twenty = (
    λ h. let r = refused names (λ z. let e = h in omega arith) in
        case r.which
        (λ w. let e = w.1 in absurd (omega arith))
        (λ w. (r.place, bad_is r w.0 w.1)),
    λ f. first_bad names f.0 f.1,
  );
}
  where
    bad_is : (r : Refused names) → r.place < 128 → names_fault names ≡ 20 → FirstBad names r.place
    bad_is r few h =
        let l = r.inside in
        record {
          inside = l;
          few = few;
          earlier = r.earlier;
          bad = λ good.
              let z = sym (first_names names (r.place + 1) (omega arith)) ∙ is_good (take (r.place + 1) names) good in
              let e = below_none (r.place + 1) (fault_at names) z r.place (omega arith) in
              let k = r.number in
              omega arith;
        }
