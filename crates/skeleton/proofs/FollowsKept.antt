-- What the call's answers promise, for every sheet s and offered pairing m.
use mathlib.Core.Path.{◌≡◌, refl, sym, ap, subst, ◌∙◌}
use mathlib.Core.Bool.{true, false, not}
use mathlib.Core.List.{List, [], ◌∷◌}
use mathlib.Core.Logic.{◌⊎◌, inl, inr, ◌≢◌, ◌↔◌}
use Prim.Native.Nat.{ℕ, ◌+◌, ◌≤◌}
use native.Mathlib.Omega.{arith}
use lib.ListN.{length}
use borrow.Author.Tests.{lt-ltb, le-ltb, ltb-true}
use Rattle.base.specs.Claims.{First}
use Rattle.base.specs.Faults.{when, first_fault}
use Rattle.base.proofs.Cases.{case, eq_ne}
use Rattle.base.proofs.Faults.{first_answered, first_none, first_holds, fault_here, fault_behind, fault_stops, fault_passes, last_fault, when_holds, unless_none, unless_is, unless_other}
use Rattle.base.proofs.Tests.{never, not_so}
use Rattle.parents.specs.Parents.{parent_of, is_there}
use Rattle.parents.specs.Claims.{Lower}
use Rattle.sheet.specs.Format.{joints, third, parents_of}
use Rattle.sheet.specs.Refusals.{sheet_fault}
use Rattle.sheet.specs.Square.{at, square_of}
use Rattle.sheet.specs.Claims.{OfSheet}
use Rattle.sheet.proofs.Accepted.{accepted_parents}
use Rattle.sheet.proofs.Numbers.{of_sheet_some, not_of_sheet, sheet_not, sheet_numbers}
use Rattle.sheet.proofs.PromiseKept.{accepted_square}
use Rattle.matching.specs.Matchings.{partner, is_matching, pair_count}
use Rattle.matching.specs.Plain.{Matching}
use Rattle.matching.proofs.MatchingTest.{is_matching_means}
use Rattle.matching.proofs.PairCounts.{paired_few}
use Rattle.matching.proofs.PairNumbers.{pair_number_small}
use Rattle.std.specs.Prelude.{Option, Some, None}
use Rattle.refusals.specs.Numbers.{RefusedAs}
use Rattle.refusals.proofs.Numbers as refusals
use Rattle.skeleton.specs.declared.Strays.{Strays}
use Rattle.skeleton.specs.Following.{stray_count, follow_count, stray_number}
use Rattle.skeleton.specs.Plain.{Stray, LowestStray}
use Rattle.skeleton.specs.Answers.{astray_by, followed, answer_all, answer_astray, follow_faults, follow_of}
use Rattle.skeleton.specs.Claims.{Judged, FollowKeeps, FollowsKept}
use Rattle.skeleton.proofs.AnswerLaws.{all_follow, some_stray}
use Rattle.skeleton.proofs.StrayRule.{strays_none, strays_counted, strays_lowest}
use Rattle.skeleton.proofs.EqualDepth.{equal_depth}

-- THE PAIRS, by how many do not follow
-- the numbers that such an answer has
pairs_in : Option Strays → ℕ
pairs_in None = 0
pairs_in (Some r) = r.pairs

lowest_in : Option Strays → ℕ
lowest_in None = 0
lowest_in (Some r) = r.lowest

module _ (ps m : List ℕ) where
  none_stray : stray_count ps m ≡ 0 → followed ps m ≡ None
  none_stray e = sym (all_follow ps m e)

  counted_stray : stray_count ps m ≢ 0 → followed ps m ≡ Some (astray_by (stray_count ps m) (stray_number ps m))
  counted_stray ne = sym (some_stray ps m ne refl refl)

  followed_all : followed ps m ≡ None ↔ (stray_count ps m ≡ 0)
  followed_all = (
    λ h. case (eq_ne (stray_count ps m) 0) (λ e. e) (λ ne. let i : Some _ ≡ None = sym (counted_stray ne) ∙ h in cc),
    none_stray,
  )

  followed_astray : (k l : ℕ) → followed ps m ≡ Some (astray_by k l) ↔ ((1 ≤ k) × (k ≡ stray_count ps m) × (l ≡ stray_number ps m))
  unfolding pairs_in lowest_in
  followed_astray k l = (
    λ h. case (eq_ne (stray_count ps m) 0)
        (λ e. let i : None ≡ Some (astray_by k l) = sym (none_stray e) ∙ h in cc)
        (λ ne.
        let i : Some (astray_by (stray_count ps m) (stray_number ps m)) ≡ Some (astray_by k l) = sym (counted_stray ne) ∙ h in
        let e : stray_count ps m ≡ k = ap pairs_in i in
        let f : stray_number ps m ≡ l = ap lowest_in i in
        (omega arith, sym e, sym f)),
    λ h. counted_stray (λ z. omega (arith, h.0, h.1)) ∙ rw (h.1, h.2) refl,
  )

-- a refusal's number
abbrev Number : ℕ → Type 0
Number k = 1 ≤ k → OfSheet k ⊎ (k ≡ 10)

-- nothing, or something
nothing : (l : List ℕ) → is_there l ≡ false → l ≡ []
nothing [] h = refl
nothing (x ∷ l) h = absurd (never _ (lt-ltb 0 (length (x ∷ l)) (omega arith)) h)

something : (l : List ℕ) → is_there l ≡ true → l ≢ []
something l h e = let long = ltb-true 0 (length l) h in let z : length l ≡ 0 = ap length e in omega arith

there : (l : List ℕ) → l ≢ [] → is_there l ≡ true
there [] ne = absurd (ne refl)
there (x ∷ l) ne = lt-ltb 0 (length (x ∷ l)) (omega arith)

module _ (s m : List ℕ) where
  abbrev n : ℕ
  n = joints s

  abbrev t : List (List ℕ)
  t = square_of s

  abbrev ps : List ℕ
  ps = parents_of s

  abbrev faults : List ℕ
  faults = follow_faults s m

  -- the two behind the sheet's own
  abbrev eighteen : ℕ
  eighteen = when (not (is_there (third s))) 18

  abbrev ten : ℕ
  ten = when (not (is_matching n t m)) 10

  any : Number (first_fault faults)
  any = first_holds Number _ _ own
      (first_holds Number _ _ (when_holds Number (not (is_there (third s))) 18 none (λ some. inl (inr (inr refl))))
      (rw (last_fault ten) (when_holds Number (not (is_matching n t m)) 10 none (λ some. inr refl))))
    where
      none : Number 0
      none some = absurd (omega arith)

      own : Number (sheet_fault s)
      own some = case (sheet_numbers s) (λ z. absurd (omega arith)) inl

  -- each is a refusal's number
  is_fault : refusals.IsFault (first_fault faults)
  is_fault = case (eq_ne (first_fault faults) 0) inl (λ some.
      let number = any (omega arith) in
      case number
      (λ o. case o
      (λ low. refusals.is_fault (first_fault faults) (omega (arith, low.1)) (λ e. omega (arith, low.1)))
      (λ r. case r
      (λ e. refusals.is_fault (first_fault faults) (omega arith) (λ f. omega arith))
      (λ e. refusals.is_fault (first_fault faults) (omega arith) (λ f. omega arith))))
      (λ e. refusals.is_fault (first_fault faults) (omega arith) (λ f. omega arith)))

  says : (k : ℕ) → RefusedAs (follow_of s m) k ↔ ((first_fault faults ≡ k) × (1 ≤ k))
  says k = refusals.refused_as (followed ps m) (first_fault faults) is_fault k

  first : (k : ℕ) → RefusedAs (follow_of s m) k ↔ First k faults
  first k = let b = first_answered faults k in (λ h. b.0 ((says k).0 h), λ h. (says k).1 (b.1 h))

  -- no refusal: an accepted sheet with parents, and a matching
  passes : first_fault faults ≡ 0 ↔ Judged s m
  passes = (
    λ h.
        let (f, rest) = first_none (sheet_fault s) _ h in
        let (x, last) = first_none eighteen _ rest in
        record {
          accepted = f;
          parents = something (third s) (unless_none (is_there (third s)) 17 x);
          matching = (is_matching_means n t m).0 (unless_none (is_matching n t m) 9 (sym (last_fault ten) ∙ last));
        },
    λ j.
        let x : eighteen ≡ 0 = rw (there (third s) j.parents) refl in
        let y : ten ≡ 0 = rw ((is_matching_means n t m).1 j.matching) refl in
        fault_passes _ _ j.accepted ∙ fault_passes _ _ x ∙ last_fault ten ∙ y,
  )

  numbers : (k : ℕ) → RefusedAs (follow_of s m) k → OfSheet k ⊎ (k ≡ 10)
  numbers k h =
      let r = (says k).0 h in
      let at : Number k = rw r.0 at any in
      at r.1

  -- a number that is answered exactly if P
  answered_by : {P : Type 0} (k : ℕ) → 1 ≤ k → first_fault faults ≡ k ↔ P → RefusedAs (follow_of s m) k ↔ P
  answered_by k some by = (λ h. by.0 ((says k).0 h).0, λ p. (says k).1 (by.1 p, some))

  by_sheet : (k : ℕ) → OfSheet k → k ≢ 18 → RefusedAs (follow_of s m) k ↔ (sheet_fault s ≡ k)
  by_sheet k own ne =
      let some = of_sheet_some k own in
      let x = unless_other (is_there (third s)) 18 k some (λ e. ne (sym e)) in
      let y = unless_other (is_matching n t m) 10 k some (λ e. not_of_sheet k own (omega arith) (omega arith)) in
      answered_by k some (fault_here (sheet_fault s) _ k some (first_holds (λ i. i ≢ k) eighteen _ x (rw (last_fault ten) y)))

  by_eighteen : RefusedAs (follow_of s m) 18 ↔ ((sheet_fault s ≡ 18) ⊎ ((sheet_fault s ≡ 0) × (third s ≡ [])))
  by_eighteen =
      let last : first_fault (ten ∷ []) ≢ 18 = rw (last_fault ten) (unless_other (is_matching n t m) 10 18 (omega arith) (λ e. omega arith)) in
      let own = fault_here eighteen (ten ∷ []) 18 (omega arith) last in
      answered_by 18 (omega arith) (
        λ h. case (eq_ne (sheet_fault s) 18) inl
            (λ ne. let r = (fault_behind (sheet_fault s) _ 18 ne).0 h in inr (r.0, nothing (third s) (unless_is (is_there (third s)) 17 (own.0 r.1)))),
        λ h. case h
            (λ e. fault_stops (sheet_fault s) _ (λ z. omega arith) ∙ e)
            (λ r. (fault_behind (sheet_fault s) _ 18 (λ e. omega (arith, r.0))).1 (r.0, own.1 (left_out r.1))),
      )
    where
      left_out : third s ≡ [] → eighteen ≡ 18
      left_out e = let z : length (third s) ≡ 0 = ap length e in rw (le-ltb 0 (length (third s)) (omega arith)) refl

  by_ten : RefusedAs (follow_of s m) 10 ↔ ((sheet_fault s ≡ 0) × (third s ≢ []) × ((length m ≡ n) × Matching n (at t) (partner m) → ⊥))
  by_ten =
      let sheet = fault_behind (sheet_fault s) (eighteen ∷ ten ∷ []) 10 (sheet_not s 10 (omega arith) (omega arith)) in
      let parents = fault_behind eighteen (ten ∷ []) 10 (unless_other (is_there (third s)) 18 10 (omega arith) (λ e. omega arith)) in
      answered_by 10 (omega arith) (
        λ h.
            let r = sheet.0 h in
            let l = parents.0 r.1 in
            let none = unless_is (is_matching n t m) 9 (sym (last_fault ten) ∙ l.1) in
            (r.0, something (third s) (unless_none (is_there (third s)) 17 l.0), λ x. never _ ((is_matching_means n t m).1 x) none),
        λ h.
            let none : is_matching n t m ≡ false = not_so (is_matching n t m) (λ q. h.2 ((is_matching_means n t m).0 q)) in
            let x : eighteen ≡ 0 = rw (there (third s) h.1) refl in
            sheet.1 (h.0, parents.1 (x, last_fault ten ∙ rw none refl)),
      )

  -- WHAT IS JUDGED: as many partners as joints, and a parent for each
  abbrev NoneStray : Type 0
  NoneStray = (a b : ℕ) → Stray n (parent_of ps) (partner m) a b → ⊥

  module _ (j : Judged s m) where
    lower : Lower ps
    lower = case (accepted_parents s j.accepted) (λ e. absurd (j.parents e)) (λ o. o.lower)

    none_of : stray_count ps m ≡ 0 ↔ NoneStray
    none_of = subst (λ (k : ℕ). stray_count ps m ≡ 0 ↔ ((a b : ℕ) → Stray k (parent_of ps) (partner m) a b → ⊥)) j.matching.0 (strays_none ps m)

    lowest_of : 1 ≤ stray_count ps m → LowestStray n (parent_of ps) (partner m) (stray_number ps m)
    lowest_of some = subst (λ (k : ℕ). LowestStray k (parent_of ps) (partner m) (stray_number ps m)) j.matching.0 (strays_lowest ps m some)

  all : follow_of s m ≡ answer_all ↔ (Judged s m × NoneStray)
  all =
      let a = refusals.value_as (followed ps m) (first_fault faults) is_fault None in (
        λ h. let r = a.0 h in let j = passes.0 r.0 in (j, (none_of j).0 ((followed_all ps m).0 r.1)),
        λ h. a.1 (passes.1 h.0, (followed_all ps m).1 ((none_of h.0).1 h.1)),
      )

  astray : (k l : ℕ) → follow_of s m ≡ answer_astray k l
      ↔ (Judged s m × (1 ≤ k) × (k ≡ stray_count ps m) × LowestStray n (parent_of ps) (partner m) l)
  astray k l =
      let a = refusals.value_as (followed ps m) (first_fault faults) is_fault (Some (astray_by k l)) in (
        λ h.
            let r = a.0 h in
            let j = passes.0 r.0 in
            let w = (followed_astray ps m k l).0 r.1 in
            (j, w.0, w.1, rw w.2 (lowest_of j (omega (arith, w.0, w.1)))),
        λ h.
            let j = h.0 in
            let own = lowest_of j (omega (arith, h.1, h.2)) in
            let same : l ≡ stray_number ps m = omega (arith, only_one own h.3, only_one h.3 own) in
            a.1 (passes.1 j, (followed_astray ps m k l).1 (h.1, h.2, same)),
      )
    where
      -- two lowest numbers are the same
      only_one : {n : ℕ} {parent partner : ℕ → ℕ} {j k : ℕ} → LowestStray n parent partner j → LowestStray n parent partner k → j ≤ k
      only_one v w = let l = v.lowest _ _ w.stray in omega (arith, w.numbered)

  all_counted : (k l : ℕ) → follow_of s m ≡ answer_astray k l → k + follow_count ps m ≡ pair_count m
  all_counted k l h =
      let r = (astray k l).0 h in
      let j = r.0 in
      omega (arith, r.2, strays_counted n t ps m (accepted_square s j.accepted) ((is_matching_means n t m).1 j.matching))

  few : (k l : ℕ) → follow_of s m ≡ answer_astray k l → (k ≤ 64) × (l ≤ 8127)
  few k l h =
      let r = (astray k l).0 h in
      let j = r.0 in
      let joints-few = (accepted_square s j.accepted).few_joints in
      let w = r.3 in
      let small = pair_number_small w.lower w.higher w.stray.below (omega (arith, w.stray.joint, joints-few)) in
      (omega (arith, all_counted k l h, paired_few m, j.matching.0, joints-few), omega (arith, w.numbered, small))

  pub follow_keeps : FollowKeeps s m
  follow_keeps = record {
    first = first;
    numbers = numbers;
    by_sheet = by_sheet;
    by_eighteen = by_eighteen;
    by_ten = by_ten;
    all = all;
    astray = astray;
    counted = all_counted;
    few = few;
    equal_depth = λ h.
        let r = all.0 h in
        let j = r.0 in
        equal_depth n (at t) (partner m) ps (accepted_square s j.accepted).few_joints j.matching.1 (lower j) r.1;
  }

pub follows_kept : FollowsKept
follows_kept = follow_keeps
