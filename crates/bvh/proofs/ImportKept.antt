-- What the call's answers promise, for every text s and buffer.
use mathlib.Core.Path.{◌≡◌, refl, sym, ap, ◌∙◌}
use mathlib.Core.List.{List, [], ◌∷◌}
use mathlib.Core.Logic.Iff
use mathlib.Core.Logic.{◌⊎◌, inl, inr, ◌≢◌, ◌↔◌}
use Prim.Native.Nat.{ℕ, ◌≤◌, ◌<◌}
use native.Mathlib.Omega.{arith}
use lib.Dec.{ltb}
use lib.ListN.{length, take, drop}
use lib.Seq.{take-append_seam, drop-append_seam}
use Rattle.base.specs.Faults.{when, first_fault}
use Rattle.base.proofs.Cases.{case}
use Rattle.base.proofs.Faults.{first_answered, first_none, fault_here, fault_behind, fault_passes, last_fault, when_less}
use Rattle.std.specs.Prelude.{Ok, Err}
use Rattle.refusals.specs.declared.Refusal.{Refusal}
use Rattle.refusals.specs.declared.Refusal.TheVariants.{TooManyJoints, OutTooShort, BadHierarchy, BadName}
use Rattle.refusals.specs.Numbers.{number_of}
use Rattle.refusals.proofs.Numbers.{number_some, numbered_once}
use Rattle.writing.specs.Written.{over}
use Rattle.words.specs.Words.{Words}
use Rattle.names.specs.Names.{names_fault}
use Rattle.names.specs.Claims.{GoodNames}
use Rattle.names.proofs.NamesRule.{names_rule, names_refused}
use Rattle.hierarchy.specs.Hierarchy.{Met, left, broken, hierarchy, joints_met, met_fault}
use Rattle.hierarchy.specs.Spelt.{Roots, root_names, joints_in, Spells}
use Rattle.hierarchy.proofs.ReadSpelt.{read_spelt}
use Rattle.hierarchy.proofs.Lower.{parents_lower}
use Rattle.bvh.specs.Written.{sheet_for}
use Rattle.bvh.specs.Answers.{sheet_in, import_faults, import_fault, import_of, import_into}
use Rattle.bvh.specs.Claims.{GivesBack, Importable, names_met, ImportKept}
use Rattle.bvh.proofs.SheetLaws.{sheet_length}
use Rattle.bvh.proofs.ImportLaws.{Number, number_fault, import_number, refused_says, sheet_says, refused_keeps, sheet_over}
use Rattle.bvh.proofs.GivesBack.{sheet_gives_back}

-- WHAT WAS MET: read to its end, or broken off
abbrev ReadOut : Met → Type 0
ReadOut met = (ws : Words) × (met ≡ left ws (joints_met met))

names_other : (names : Words) (k : ℕ) → 1 ≤ k → k ≢ 2 → k ≢ 20 → names_fault names ≢ k
names_other names k some two twenty e =
    case (names_refused names).number (λ z. omega arith) (λ h. case h (λ y. two (sym e ∙ y)) (λ y. twenty (sym e ∙ y)))

not_nineteen : (names : Words) → names_fault names ≢ 19
not_nineteen names = names_other names 19 (omega arith) (λ e. omega arith) (λ e. omega arith)

-- the numbers of its names
met_named : (met : Met) (k : ℕ) → 1 ≤ k → k ≢ 19 → met_fault met ≡ k ↔ (names_fault (joints_met met).names ≡ k)
unfolding met_fault joints_met
met_named (left ws js) k some other = (λ h. h, λ h. h)
met_named (broken js) k some other = fault_here (names_fault js.names) (19 ∷ []) k some (λ e. other (sym e ∙ last_fault 19))

met_broken : (met : Met) → met_fault met ≡ 19 ↔ ((names_fault (joints_met met).names ≡ 0) × (ReadOut met → ⊥))
unfolding met_fault joints_met
met_broken (left ws js) =
    (λ h. absurd (not_nineteen js.names h), λ h. absurd (h.1 (ws, refl)))
met_broken (broken js) =
    let b = fault_behind (names_fault js.names) (19 ∷ []) 19 (not_nineteen js.names) in
    (λ h. ((b.0 h).0, λ r. let e = r.1 in cc), λ h. b.1 (h.0, last_fault 19))

met_none : (met : Met) → met_fault met ≡ 0 ↔ ((names_fault (joints_met met).names ≡ 0) × ReadOut met)
unfolding met_fault joints_met
met_none (left ws js) = (λ h. (h, (ws, refl)), λ h. h.0)
met_none (broken js) = (
  λ h. let last = sym (last_fault 19) ∙ (first_none (names_fault js.names) (19 ∷ []) h).1 in absurd (omega arith),
  λ h. let e = h.1.1 in cc,
)

-- A TEXT THAT SPELLS A HIERARCHY is read to its end, and its joints are met
module _ (s : List ℕ) (h : Roots) (spells : Spells s h) where
  spelt_left : (ws : Words) × (hierarchy s ≡ left ws (joints_in h))
  spelt_left = (read_spelt s (joints_in h)).1 (h, (spells, refl))

  spelt_joints : joints_met (hierarchy s) ≡ joints_in h
  unfolding joints_met
  spelt_joints = ap joints_met spelt_left.1

  spelt_out : ReadOut (hierarchy s)
  spelt_out = (spelt_left.0, spelt_left.1 ∙ ap (left spelt_left.0) (sym spelt_joints))

  pub spelt_sheet : sheet_in s ≡ sheet_for (joints_in h)
  spelt_sheet = ap sheet_for spelt_joints

  spelt_good : met_fault (hierarchy s) ≡ 0 → GoodNames (root_names h)
  spelt_good e = (names_rule (root_names h)).0 (rw spelt_joints at ((met_none (hierarchy s)).0 e).0)

unspelt : (s : List ℕ) → (ReadOut (hierarchy s) → ⊥) ↔ ((h : Roots) → Spells s h → ⊥)
unspelt s = (λ none h p. none (spelt_out s h p), λ none r. let (h, (p, e)) = (read_spelt s (joints_met (hierarchy s))).0 r in none h p)

importable : (s : List ℕ) → met_fault (hierarchy s) ≡ 0 ↔ ((h : Roots) × Importable s h)
importable s = (
  λ e. let (h, (p, same)) = (read_spelt s (joints_met (hierarchy s))).0 ((met_none (hierarchy s)).0 e).1 in
      (h, record { spells = p; names = spelt_good s h p e }),
  λ r. let (h, i) = r in
      (met_none (hierarchy s)).1 (rw (spelt_joints s h i.spells) ((names_rule (root_names h)).1 i.names), spelt_out s h i.spells),
)

-- at most 128 names, and as many parents
importable_short : (s : List ℕ) (h : Roots) → Importable s h → length (sheet_for (joints_in h)) ≤ 2180
importable_short s h i =
    let long = sheet_length (joints_in h) (λ j k. (i.names.each j k).short) in
    let few = i.names.few in
    let each = (parents_lower h).0 in
    omega arith

module _ (s out : List ℕ) where
  abbrev met : ℕ
  met = met_fault (hierarchy s)

  abbrev nine : ℕ
  nine = when (ltb (length out) (length (sheet_in s))) 9

  says : (r : Refusal) → import_of s (length out) ≡ Err r ↔ (import_fault s (length out) ≡ number_of r)
  says r = refused_says s (length out) r

  -- a number that is answered
  first : (k : ℕ) → ((r : Refusal) × ((number_of r ≡ k) × (import_of s (length out) ≡ Err r))) ↔ ((import_fault s (length out) ≡ k) × (1 ≤ k))
  first k = (
    λ h. let (r, (e, said)) = h in let some = number_some r in ((says r).0 said ∙ e, omega arith),
    λ h. case (number_fault (import_fault s (length out)) (import_number s (length out)))
        (λ z. absurd (let e = h.0 in let some = h.1 in omega arith))
        (λ f. (f.0, (f.1 ∙ h.0, (says f.0).1 (sym f.1)))),
  )

  -- is there room for the sheet?
  room_or_not : ((nine ≡ 0) × (length (sheet_in s) ≤ length out)) ⊎ ((nine ≡ 9) × (length out < length (sheet_in s)))
  room_or_not = when_less (length out) (length (sheet_in s)) 9

  numbers : (r : Refusal) → import_of s (length out) ≡ Err r
      → (r ≡ TooManyJoints) ⊎ ((r ≡ OutTooShort) ⊎ ((r ≡ BadHierarchy) ⊎ (r ≡ BadName)))
  numbers r h =
      let e = (says r).0 h in
      let own : Number (number_of r) = rw e at (import_number s (length out)) in
      case (own (number_some r)) (λ k. inl (numbered_once r TooManyJoints k))
      (λ o. case o (λ k. inr (inl (numbered_once r OutTooShort k)))
      (λ o. case o (λ k. inr (inr (inl (numbered_once r BadHierarchy k)))) (λ k. inr (inr (inr (numbered_once r BadName k))))))

  -- a number of what was met, in the text alone
  by_met : (r : Refusal) → number_of r ≢ 9 → import_of s (length out) ≡ Err r ↔ (met ≡ number_of r)
  by_met r other =
      let k = number_of r in
      let last : first_fault (nine ∷ []) ≢ k = λ e. case room_or_not
      (λ q. let z = q.0 in let f = last_fault nine in let some = number_some r in omega arith)
      (λ q. other (sym e ∙ last_fault nine ∙ q.0)) in
      Iff.trans (says r) (fault_here met (nine ∷ []) k (number_some r) last)

  by_name : {P : Type 0} (r : Refusal) → number_of r ≢ 9 → number_of r ≢ 19 → names_fault (names_met s) ≡ number_of r ↔ P
      → import_of s (length out) ≡ Err r ↔ P
  by_name r other whole by = Iff.trans (by_met r other) (Iff.trans (met_named (hierarchy s) (number_of r) (number_some r) whole) by)

  by_nineteen : import_of s (length out) ≡ Err BadHierarchy ↔ (GoodNames (names_met s) × ((h : Roots) → Spells s h → ⊥))
  by_nineteen =
      Iff.trans (by_met BadHierarchy (λ e. omega arith))
      (Iff.trans (met_broken (hierarchy s)) (Iff.and (names_rule (names_met s)) (unspelt s)))

  by_nine : import_of s (length out) ≡ Err OutTooShort ↔ ((h : Roots) × (Importable s h × (length out < length (sheet_for (joints_in h)))))
  by_nine =
      let other : met ≢ 9 = λ e. names_other (names_met s) 9 (omega arith) (λ e. omega arith) (λ e. omega arith)
      ((met_named (hierarchy s) 9 (omega arith) (λ e. omega arith)).0 e) in
      let last = last_fault nine in
      let behind = fault_behind met (nine ∷ []) 9 other in
      Iff.trans (says OutTooShort) (
        λ e. let (z, full) = behind.0 e in
            let (h, i) = (importable s).0 z in
            (h, (i, rw (← spelt_sheet s h i.spells) (case room_or_not (λ r. absurd (omega (arith, r.0))) (λ r. r.1)))),
        λ r. let (h, (i, l)) = r in
            let full : length out < length (sheet_in s) = rw (spelt_sheet s h i.spells) l in
            behind.1 ((importable s).1 (h, i), case room_or_not (λ r. absurd (omega (arith, r.1))) (λ r. last ∙ r.0)),
      )

  -- nothing is refused: the text has a hierarchy, and there is room for its sheet
  passes : import_fault s (length out) ≡ 0 ↔ ((met ≡ 0) × (length (sheet_in s) ≤ length out))
  passes = (
    λ e. let (z, rest) = first_none met (nine ∷ []) e in
        let last = last_fault nine in
        (z, case room_or_not (λ r. r.1) (λ r. absurd (omega (arith, r.0)))),
    λ h. fault_passes met (nine ∷ []) h.0 ∙ last_fault nine ∙ case room_or_not (λ r. r.0) (λ r. absurd (omega (arith, r.1, h.1))),
  )

  sheet : (size : ℕ) → import_of s (length out) ≡ Ok size
      ↔ ((h : Roots) × (Importable s h × ((size ≡ length (sheet_for (joints_in h))) × (size ≤ length out))))
  sheet size =
      let b = sheet_says s (length out) size in (
        λ e. let (f, long) = b.0 e in
            let (z, fits) = passes.0 f in
            let (h, i) = (importable s).0 z in
            (h, (i, (rw (← spelt_sheet s h i.spells) long, omega arith))),
        λ r. let (h, (i, (long, fits))) = r in
            let own : size ≡ length (sheet_in s) = rw (spelt_sheet s h i.spells) long in
            b.1 (passes.1 ((importable s).1 (h, i), omega arith), own),
      )

  gives_back : (size : ℕ) (h : Roots) → import_of s (length out) ≡ Ok size → Spells s h
      → GivesBack h (take size (import_into s out)) × (drop size (import_into s out) ≡ drop size out)
  gives_back size h e p =
      let (f, long) = (sheet_says s (length out) size).0 e in
      let good = spelt_good s h p (passes.0 f).0 in
      let into : import_into s out ≡ over (sheet_in s) out = sheet_over (import_fault s (length out)) (sheet_in s) out f in (
        rw (into, long, take-append_seam (sheet_in s), spelt_sheet s h p) (sheet_gives_back s h p good),
        rw (into, long) (drop-append_seam (sheet_in s) (drop (length (sheet_in s)) out)),
      )

  at_most : (size : ℕ) → import_of s (length out) ≡ Ok size → size ≤ 2180
  at_most size e = let (h, (i, (long, fits))) = (sheet size).0 e in let most = importable_short s h i in omega arith

  room : 2180 ≤ length out → import_of s (length out) ≢ Err OutTooShort
  room wide e = let (h, (i, l)) = by_nine.0 e in let most = importable_short s h i in omega arith

pub import_kept : ImportKept
import_kept s out = record {
  first = λ k. Iff.trans (first s out k) (first_answered (import_faults s (length out)) k);
  numbers = numbers s out;
  by_two = by_name s out TooManyJoints (λ e. omega arith) (λ e. omega arith) (names_refused (names_met s)).two;
  by_twenty = by_name s out BadName (λ e. omega arith) (λ e. omega arith) (names_refused (names_met s)).twenty;
  by_nineteen = by_nineteen s out;
  by_nine = by_nine s out;
  sheet = sheet s out;
  gives_back = gives_back s out;
  unchanged = λ r e.
      let f = (says s out r).0 e in
      let some = number_some r in
      refused_keeps (import_fault s (length out)) (sheet_in s) out (omega arith);
  at_most = at_most s out;
  room = room s out;
}
