-- The answer of follow, one law for each way that the code takes.
use mathlib.Core.Path.{◌≡◌, refl, sym, ap, ◌∙◌}
use mathlib.Core.Bool.{true, false}
use mathlib.Core.List.{List, [], ◌∷◌}
use mathlib.Core.Logic.{◌≢◌}
use Prim.Native.Nat.{ℕ, ◌≤◌, ◌<◌}
use native.Mathlib.Omega.{arith}
use lib.Dec.{ltb}
use lib.ListN.{length}
use borrow.Author.Tests.{eq-eqb, ne_eqb, lt-ltb, le-ltb}
use Rattle.std.specs.Prelude.{Option, Some, None, Result, Ok, Err}
use Rattle.base.specs.Below.{first_below}
use Rattle.base.specs.Faults.{first_fault}
use Rattle.base.proofs.Cases.{case, lt_ge}
use Rattle.base.proofs.CountBelow.{count_one}
use Rattle.base.proofs.Faults.{fault_stops, fault_passes, last_fault}
use Rattle.base.proofs.Lowest.{lowest_passes}
use Rattle.base.proofs.FirstBelow.{first_found}
use Rattle.refusals.specs.declared.Refusal.{Refusal}
use Rattle.refusals.specs.declared.Refusal.TheVariants.{NoPairingOffered, BadParents}
use Rattle.refusals.specs.Numbers.{answered}
use Rattle.refusals.proofs.Numbers.{number_some, answered_none, answered_refused}
use Rattle.parents.specs.Parents.{parents_in, parent_of}
use Rattle.parents.specs.Claims.{IsSection, OneEach}
use Rattle.parents.proofs.DepthRule.{parent_lower}
use Rattle.sheet.specs.declared.Parts.{Parts}
use Rattle.sheet.specs.Format.{third}
use Rattle.sheet.specs.Refusals.{sheet_fault}
use Rattle.sheet.specs.Square.{square_of}
use Rattle.sheet.specs.Readings.{reading_of}
use Rattle.sheet.proofs.Accepted.{accepted_parents}
use Rattle.sheet.proofs.ReadAs.{ReadAs, read_refused}
use Rattle.matching.specs.Matchings.{partner, partner_of, is_matching, pair_number}
use Rattle.matching.proofs.MatchingTest.{as_many, partner_some, partner_none}
use Rattle.skeleton.specs.declared.Strays.{Strays}
use Rattle.skeleton.specs.Following.{is_stray, stray_count, stray_number, lowest_stray}
use Rattle.skeleton.specs.Answers.{astray_by, followed, own_faults, follow_lists, follow_faults, follow_of}
use Rattle.skeleton.proofs.FollowLaws.{stray_is, stray_found}

-- THE PAIRS
module _ (ps m : List ℕ) where
  pub all_follow : stray_count ps m ≡ 0 → None ≡ followed ps m
  unfolding followed
  all_follow e = rw (eq-eqb (stray_count ps m) 0 e)

  pub some_stray : stray_count ps m ≢ 0 → {k l : ℕ} → k ≡ stray_count ps m → l ≡ stray_number ps m
      → Some (astray_by k l) ≡ followed ps m
  unfolding followed
  some_stray ne e f = rw (ne_eqb (stray_count ps m) 0 ne, e, f)

  -- no joint is the higher one of a pair that does not follow
  pub none_astray : None ≡ first_below (length m) (is_stray ps m) → None ≡ followed ps m
  none_astray e =
      let past = first_found (length m) (is_stray ps m) e in
      all_follow (case (lt_ge 0 (stray_count ps m)) (λ some. let low = (stray_found ps m some).0 in absurd (omega arith)) (λ z. omega arith))

  -- b is, so it has a partner, and the pair's number is the lowest
  pub stray_joint : {b : ℕ} → Some b ≡ first_below (length m) (is_stray ps m)
      → (b ≡ lowest_stray ps m) × (b < length m) × (partner m b < b) × (stray_count ps m ≢ 0)
  stray_joint {b} e =
      let at = first_found (length m) (is_stray ps m) e in
      let low : lowest_stray ps m < length m = omega (arith, at.0, at.1) in
      let stray : is_stray ps m b ≡ true = rw at.1 (lowest_passes (length m) (is_stray ps m) low) in
      (at.1, at.0, (stray_is ps m b stray).0, λ z. let one = count_one (length m) (is_stray ps m) b at.0 stray in omega arith)

  pub stray_paired : {b : ℕ} → Some b ≡ first_below (length m) (is_stray ps m) → length m ≤ 128 → None ≡ partner_of m b → ⊥
  stray_paired {b} e few alone = let j = stray_joint e in let u = partner_none m b alone in omega (arith, u, j.1, j.2)

  pub stray_pair : {a b : ℕ} → Some b ≡ first_below (length m) (is_stray ps m) → Some a ≡ partner_of m b → (a < b) × (b < length m)
  stray_pair {a} {b} e f = let j = stray_joint e in let p = partner_some m b f in (omega (arith, p.0, j.2), j.1)

  pub pairs_astray : {a b k l : ℕ} → Some b ≡ first_below (length m) (is_stray ps m) → Some a ≡ partner_of m b
      → k ≡ stray_count ps m → l ≡ pair_number a b → Some (astray_by k l) ≡ followed ps m
  pairs_astray {a} {b} e f count number =
      let j = stray_joint e in
      let p = partner_some m b f in
      some_stray j.3 count (number ∙ rw (p.0, j.0) refl)

-- OVER LISTS: 18, 10, or the pairs
module _ (n : ℕ) (t : List (List ℕ)) (own m : List ℕ) where
  abbrev fault : ℕ
  fault = first_fault (own_faults n t own m)

  pub eighteen : length own ≡ 0 → Err BadParents ≡ follow_lists n t own m
  eighteen e =
      let first : fault ≡ 18 = rw (le-ltb 0 (length own) (omega arith)) (fault_stops 18 _ (λ z. omega arith)) in
      answered_refused (followed (parents_in own) m) fault BadParents (sym first)

  -- with the part after its count
  module _ {count : ℕ} (part : List ℕ) (is : own ≡ count ∷ part) where
    is_there_lem : ltb 0 (length own) ≡ true
    is_there_lem = rw is (lt-ltb 0 (length (count ∷ part)) (omega arith))

    part_is : parents_in own ≡ part
    part_is = rw is refl

    pub ten : is_matching n t m ≡ false → Err NoPairingOffered ≡ follow_lists n t own m
    ten e =
        let first : fault ≡ 10 = rw (is_there_lem, e) (fault_passes 0 _ refl ∙ last_fault 10) in
        answered_refused (followed (parents_in own) m) fault NoPairingOffered (sym first)

    pub judged : is_matching n t m ≡ true → {r : Option Strays} → r ≡ followed part m → Ok r ≡ follow_lists n t own m
    judged e h =
        let none : fault ≡ 0 = rw (is_there_lem, e) (fault_passes 0 _ refl ∙ last_fault 0) in
        ap Ok (h ∙ ap (λ (l : List ℕ). followed l m) (sym part_is)) ∙ answered_none (followed (parents_in own) m) fault none

    -- as many parents as joints, each lower
    one_each : IsSection n own → OneEach n own
    one_each section = case section (λ e. let no : count ∷ part ≡ [] = sym is ∙ e in cc) (λ o. o)

    pub parents_lower : IsSection n own → (i : ℕ) → parent_of part i ≢ 255 → parent_of part i < i
    parents_lower section = rw part_is at (parent_lower (parents_in own) (one_each section).lower)

    pub parents_many : IsSection n own → is_matching n t m ≡ true → length m ≡ length part
    parents_many section e = as_many n t m e ∙ sym (rw part_is at (one_each section).whole)

-- OVER A SHEET: its refusal, or what is said over its lists
module _ (s m : List ℕ) where
  pub sheet_refused : (r : Refusal) → reading_of s ≡ Err r → Err r ≡ follow_of s m
  sheet_refused r h =
      let number = read_refused s r h in
      let some = number_some r in
      let e : first_fault (follow_faults s m) ≡ sheet_fault s = fault_stops (sheet_fault s) _ (λ z. omega arith) in
      answered_refused (followed (parents_in (third s)) m) (first_fault (follow_faults s m)) r (number ∙ sym e)

  -- as it is read, and the part `own` handed over
  module _ (parts : Parts) (t : List (List ℕ)) (known : ReadAs s parts) (filled : t ≡ square_of s) (own : List ℕ) (is : own ≡ third s) where
    pub own_section : IsSection parts.joints own
    own_section = rw (is, known.n_joints) (accepted_parents s known.faultless)

    pub sheet_accepted : {r : Result (Option Strays) Refusal} → r ≡ follow_lists parts.joints t own m → r ≡ follow_of s m
    sheet_accepted h =
        (rw (is, filled, known.n_joints) at h)
        ∙ ap (λ (k : ℕ). answered k (followed (parents_in (third s)) m)) (sym (fault_passes (sheet_fault s) _ known.faultless))
