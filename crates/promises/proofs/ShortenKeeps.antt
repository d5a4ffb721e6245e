-- What shorten's answers promise.
use mathlib.Core.Path.{◌≡◌, refl, sym, ap, ◌∙◌}
use mathlib.Core.Bool.{false}
use mathlib.Core.List.{List, [], ◌∷◌, ◌++◌}
use mathlib.Core.Logic.{◌⊎◌, inr, ◌↔◌}
use Prim.Native.Nat.{ℕ, zero, suc, ◌+◌, ◌*◌, ◌/◌, ◌%◌, ◌≤◌}
use native.Mathlib.Omega.{arith}
use lib.ListN.{length, take}
use Rattle.base.specs.Claims.{First}
use Rattle.base.specs.Faults.{first_fault}
use Rattle.base.proofs.Cases.{case}
use Rattle.base.proofs.Faults.{first_answered, fault_stops, fault_passes, last_fault}
use Rattle.sheet.specs.Format.{joints, rank_count, count_start, entries_of}
use Rattle.sheet.specs.Refusals.{sheet_fault}
use Rattle.sheet.specs.Square.{square_of}
use Rattle.sheet.proofs.PromiseKept.{accepted_square}
use Rattle.writing.specs.Written.{over}
use Rattle.roommates.specs.Lists.{Square}
use Rattle.roommates.specs.declared.Stage.{Stage}
use Rattle.roommates.specs.declared.Stage.TheVariants.{NoneOne, Paired}
use Rattle.roommates.specs.PhaseOne.{Work}
use Rattle.roommates.specs.Runs.{OneEnded, Arrived}
use Rattle.roommates.specs.Left.{entry_count, list_bytes}
use Rattle.roommates.proofs.EntriesListed.{all_listed, pairs_half}
use Rattle.roommates.proofs.EntriesWritten.{bytes_length}
use Rattle.roommates.proofs.Stages.{one_paired}
use Rattle.roommates.proofs.Shortenings.{Shortened, left_none, left_lists, arrived_shortened}
use Rattle.relisting.specs.Written.{PairsStruck, left, bytes_of, count_bytes, relisted}
use Rattle.parents.specs.Claims.{IsSection}
use Rattle.relisting.specs.Claims.{SheetWith}
use Rattle.relisting.proofs.EntryBytes as B
use Rattle.relisting.proofs.Strikes.{shorten_strikes}
use Rattle.relisting.proofs.LeftWritten.{written_entries}
use Rattle.relisting.proofs.Rereading.{reads_back, written_returned}
use Rattle.records.specs.Records.{is_odd, shortens_by}
use Rattle.records.proofs.RecordDemands.{worked_by_arrives, record_demands}
use Rattle.records.proofs.RecordRefusals.{refusal_number, not_twelve, record_refusals}
use Rattle.calls.specs.declared.Phase.TheVariants as P
use Rattle.calls.specs.declared.End.TheVariants as E
use Rattle.refusals.specs.Numbers.{fault_of, fault_in, RefusedAs}
use Rattle.refusals.proofs.Numbers.{IsFault, answered_none, value_answered, refused_as, fault_answered}
use Rattle.std.proofs.Common.{Option, Some, None, Ok}
use lib.Dec.{ltb}
use Rattle.calls.specs.Calls.{left_of, shorten_call, listed_as, settle_answer, shorten_answer, shorten_bytes, counts_of}
use Rattle.promises.specs.Claims.{ListsAre, Refuses}
use Rattle.calls.proofs.Answers.{choice_is_fault, faults_are, shortened_lists, settled_none_one, unwritten, unpaired_unwritten}
use Rattle.calls.proofs.LawsCalls.{left_fits}
use Rattle.promises.proofs.Refusals.{no_fault, all_pass, refuses}
use Rattle.promises.proofs.SettleKeeps.{Over, over_is, counts_first, settle_ran, settle_is_fault, settle_unrefused, settle_ends, verdict_on, pairs_on}
use Rattle.sheet.proofs.Numbers.{sheet_not, sheet_numbers, sheet_is_fault}
use Rattle.sheet.proofs.Sizes.{accepted_sizes}

-- the first two bytes of lists
count_bytes_lem : (n : ℕ) (t : Square) (rest : List ℕ) → take 2 (list_bytes n t ++ rest) ≡ (entry_count n t % 256) ∷ ((entry_count n t / 256) ∷ [])
unfolding list_bytes
count_bytes_lem n t rest = refl

-- none is known by its verdict
none_one_only : (v : Stage) (c : ℕ) → (v ≡ NoneOne) ⊎ (v ≡ Paired) → listed_as v c ≡ None ↔ (v ≡ NoneOne)
none_one_only v c says = (
  λ h. case says (λ e. e) (λ e. let i : Some c ≡ None = ap (λ (x : Stage). listed_as x c) (sym e) ∙ h in cc),
  λ e. ap (λ (x : Stage). listed_as x c) e,
)

-- lists are those where phase one ended
ended_lists : {n : ℕ} {t : Square} {w : Work} → Arrived false n t w → w.stage ≡ Paired → (v : Work) × (OneEnded n t v × (w.lists ≡ v.lists))
ended_lists a p = go (arrived_shortened a (inr (inr p))) p
  where
    go : {n : ℕ} {t : Square} {w : Work} → Shortened n t w → w.stage ≡ Paired → (v : Work) × (OneEnded n t v × (w.lists ≡ v.lists))
    go (left_none v h e bad) p = absurd (one_paired (ap (λ u. u.stage) h) p)
    go (left_lists v h e ok) p = (v, (e, ap (λ u. u.lists) h))

-- THE CALL: its first refusal, its working's verdict, its count
abbrev ends_on : List ℕ → List ℕ → Stage
ends_on s cs = (shortens_by (joints s) (square_of s) cs).work_is.stage

abbrev entries_on : List ℕ → List ℕ → ℕ
entries_on s cs = entry_count (joints s) (left_of (joints s) (square_of s) cs)

abbrev Unrefused : List ℕ → List ℕ → Type 0
Unrefused s cs = (shortens_by (joints s) (square_of s) cs).refusal ≡ 0

module _ (s cs out : List ℕ) where
  abbrev fault : ℕ
  fault = first_fault (shorten_call s cs out).faults

  pub shorten_ran : fault ≡ 0 → (sheet_fault s ≡ 0) × (2 + 3 * rank_count s ≤ length out) × Unrefused s cs
  shorten_ran = no_fault (sheet_fault s) (length out) (2 + 3 * rank_count s) _

  pub shorten_is_fault : IsFault fault
  shorten_is_fault =
      faults_are (sheet_fault s) (ltb (length out) (2 + 3 * rank_count s)) _ (sheet_is_fault s) (choice_is_fault false (joints s) (square_of s) cs)

  pub shorten_unrefused : fault_in (shorten_answer s cs out) ≡ 0 → fault ≡ 0
  shorten_unrefused h = sym (fault_answered (listed_as (ends_on s cs) (entries_on s cs)) fault shorten_is_fault) ∙ h

  shorten_ends : fault ≡ 0 → shorten_answer s cs out ≡ Ok (listed_as (ends_on s cs) (entries_on s cs))
  shorten_ends h = sym (answered_none _ fault h)

  -- what it lists
  shorten_lists_as : (o : Option ℕ) → shorten_answer s cs out ≡ Ok o → listed_as (ends_on s cs) (entries_on s cs) ≡ o
  shorten_lists_as o h = (value_answered _ fault o shorten_is_fault h).1

  says : (k : ℕ) → RefusedAs (shorten_answer s cs out) k ↔ ((fault ≡ k) × (1 ≤ k))
  says = refused_as (listed_as (ends_on s cs) (entries_on s cs)) fault shorten_is_fault

  pub shorten_first : (k : ℕ) → RefusedAs (shorten_answer s cs out) k ↔ First k (shorten_call s cs out).faults
  shorten_first k =
      let b = first_answered (shorten_call s cs out).faults k in
      (λ h. b.0 ((says k).0 h), λ h. (says k).1 (b.1 h))

  pub shorten_refuses : Refuses (sheet_fault s) (fault_of (counts_of false s cs).refusal) (2 + 3 * rank_count s) (length out) (λ k. RefusedAs (shorten_answer s cs out) k)
  shorten_refuses =
      rw (counts_first false s cs)
      (refuses (sheet_fault s) (length out) (2 + 3 * rank_count s) (shortens_by (joints s) (square_of s) cs).refusal (sheet_numbers s)
      (refusal_number false (joints s) (square_of s) cs)
      (RefusedAs (shorten_answer s cs out))
      says)

  pub shorten_unwritten : (k : ℕ) → RefusedAs (shorten_answer s cs out) k → shorten_bytes s cs out ≡ out
  shorten_unwritten k h = let r = (says k).0 h in unwritten fault (ends_on s cs) _ out (omega (arith, r.0, r.1))

  pub shorten_none : shorten_answer s cs out ≡ Ok None → shorten_bytes s cs out ≡ out
  shorten_none h =
      let e = shorten_lists_as None h in
      unpaired_unwritten fault (ends_on s cs) _ out
      (λ i. let j : Some (entries_on s cs) ≡ None = ap (λ (x : Stage). listed_as x (entries_on s cs)) (sym i) ∙ e in cc)

  -- a call that returns lists: where phase one ended, and what is written
  module _ (k : ℕ) (h : shorten_answer s cs out ≡ Ok (Some k)) where
    ran : (sheet_fault s ≡ 0) × (2 + 3 * rank_count s ≤ length out) × Unrefused s cs
    ran = shorten_ran (shorten_unrefused (ap fault_in h))

    verdict : (ends_on s cs ≡ Paired) × (entries_on s cs ≡ k)
    verdict = shortened_lists (ends_on s cs) (entries_on s cs) k (shorten_lists_as (Some k) h)

    abbrev lists : Square
    lists = left_of (joints s) (square_of s) cs

    written : shorten_bytes s cs out ≡ over (list_bytes (joints s) lists) out
    written = rw (shorten_unrefused (ap fault_in h), verdict.0) refl

    pub lists_over : Over (2 + 3 * k) (list_bytes (joints s) lists) out (shorten_bytes s cs out)
    lists_over =
        let fewer = left_fits (joints s) (square_of s) cs (accepted_square s ran.0) in
        let all = all_listed s ran.0 in
        let half = pairs_half s ran.0 in
        let l = bytes_length (joints s) lists in
        let count = verdict.1 in
        let room = ran.1 in
        over_is (2 + 3 * k) _ out (shorten_bytes s cs out) written (omega arith) (omega arith)

    struck : PairsStruck (square_of s) lists
    struck = shorten_strikes s (shortens_by (joints s) (square_of s) cs).work_is ran.0 (worked_by_arrives false (joints s) (square_of s) cs)

    few : length (left lists (entries_of s)) ≡ k
    few =
        let e = ap length (written_entries s lists ran.0 struck) in
        let l = bytes_length (joints s) lists in
        let three = B.bytes_length (left lists (entries_of s)) in
        let both : 2 + 3 * k ≡ 2 + length (bytes_of (left lists (entries_of s))) = omega (arith, verdict.1, e, l) in
        omega arith

    back : (own : List ℕ) → IsSection (joints s) own → SheetWith s lists own (take (count_start s) s ++ (take (2 + 3 * k) (shorten_bytes s cs out) ++ own))
    unfolding relisted
    back own section = rw lists_over.first (reads_back s lists own ran.0 struck section)

    pub shorten_lists : ListsAre s out (shorten_bytes s cs out) k
    shorten_lists = lists_are (ended_lists (worked_by_arrives false (joints s) (square_of s) cs) verdict.0)
      where
        lists_are : (v : Work) × (OneEnded (joints s) (square_of s) v × (lists ≡ v.lists)) → ListsAre s out (shorten_bytes s cs out) k
        lists_are (v, e) = record {
          end = v;
          ended = e.0;
          entries = rw (← e.1) (lists_over.first ∙ written_entries s lists ran.0 struck ∙ ap (λ i. count_bytes i ++ bytes_of (left lists (entries_of s))) few);
          how_many = rw (← e.1) few;
          returned = rw (← e.1) (written_returned s lists ran.0 struck);
          reads_back = rw (← e.1) back;
          at_most =
              let fewer = left_fits (joints s) (square_of s) cs (accepted_square s ran.0) in
              let all = all_listed s ran.0 in
              let half = pairs_half s ran.0 in
              let most = (accepted_sizes s ran.0).most_entries in
              let count = verdict.1 in
              omega arith;
          count_first = rw (written, ← verdict.1) (count_bytes_lem (joints s) lists _);
          past = lists_over.past;
          same_length = lists_over.same_length;
        }

-- 12 is no refusal of shorten's
pub shorten_not_12 : (s cs out : List ℕ) → RefusedAs (shorten_answer s cs out) 12 → ⊥
shorten_not_12 s cs out h =
    let c = (shortens_by (joints s) (square_of s) cs).refusal in
    let e : first_fault (sheet_fault s ∷ (c ∷ [])) ≡ 12
    = sym (counts_first false s cs) ∙ (((shorten_refuses s cs out).by_choice 12 (omega arith) (omega arith)).0 h).1 in
    go (sheet_fault s) refl e
  where
    go : (f : ℕ) → sheet_fault s ≡ f → first_fault (f ∷ ((shortens_by (joints s) (square_of s) cs).refusal ∷ [])) ≡ 12 → ⊥
    go zero z e =
        not_twelve (joints s) (square_of s) cs (sym (fault_passes 0 _ refl ∙ last_fault _) ∙ e)
    go (suc k) z e = let i : suc k ≡ 12 = sym (fault_stops (suc k) _ (λ x. omega arith)) ∙ e in sheet_not s 12 (omega arith) (omega arith) (z ∙ i)

-- RECORDS left off earlier
pub shorten_beginning : (s cs ds out : List ℕ) → is_odd (length cs) ≡ false → fault_in (shorten_answer s (cs ++ ds) out) ≡ 0 → fault_in (shorten_answer s cs out) ≡ 0
shorten_beginning s cs ds out even h =
    let r = shorten_ran s (cs ++ ds) out (shorten_unrefused s (cs ++ ds) out h) in
    let z = (record_refusals false (joints s) (square_of s) cs).beginning ds even r.2 in
    fault_answered (listed_as (ends_on s cs) (entries_on s cs)) _ (shorten_is_fault s cs out) ∙ all_pass (sheet_fault s) (length out) (2 + 3 * rank_count s) _ r.0 r.1 z

-- TWO CALLS that refuse nothing
same_none_one : (s cs ds : List ℕ) (f : sheet_fault s ≡ 0) → Unrefused s cs → Unrefused s ds → ends_on s cs ≡ NoneOne → ends_on s ds ≡ NoneOne
same_none_one s cs ds f y z e =
    let d = record_demands s f in
    let u = d.no_choices.0 in
    (d.shorten_none ds [] z u).1 ((d.shorten_none cs [] y u).0 e)

same_listing : (s cs ds : List ℕ) → sheet_fault s ≡ 0 → Unrefused s cs → Unrefused s ds
    → listed_as (ends_on s cs) (entries_on s cs) ≡ listed_as (ends_on s ds) (entries_on s ds)
same_listing s cs ds f y z =
    let d = record_demands s f in
    case (d.shorten_says cs y)
    (λ e. rw (e, same_none_one s cs ds f y z e) refl)
    (λ e.
    case (d.shorten_says ds z)
    (λ g. absurd (one_paired (same_none_one s ds cs f z y g) e))
    (λ g.
    let b = ap length (d.same_lists cs ds y z (λ i. one_paired i e)) in
    let l = bytes_length (joints s) (left_of (joints s) (square_of s) cs) in
    let m = bytes_length (joints s) (left_of (joints s) (square_of s) ds) in
    let k : entries_on s cs ≡ entries_on s ds = omega arith in
    rw (e, g) (ap Some k)))

module _ (s cs ds out out' : List ℕ) where
  pub shorten_same : fault_in (shorten_answer s cs out) ≡ 0 → fault_in (shorten_answer s ds out') ≡ 0
      → shorten_answer s cs out ≡ shorten_answer s ds out'
  shorten_same h g =
      let y = shorten_unrefused s cs out h in
      let z = shorten_unrefused s ds out' g in
      let p = shorten_ran s cs out y in
      let q = shorten_ran s ds out' z in
      shorten_ends s cs out y ∙ ap Ok (same_listing s cs ds p.0 p.2 q.2) ∙ sym (shorten_ends s ds out' z)

  pub same_bytes : (k : ℕ) → shorten_answer s cs out ≡ Ok (Some k) → shorten_answer s ds out' ≡ Ok (Some k)
      → take (2 + 3 * k) (shorten_bytes s cs out) ≡ take (2 + 3 * k) (shorten_bytes s ds out')
  same_bytes k h g =
      let y = shorten_unrefused s cs out (ap fault_in h) in
      let p = shorten_ran s cs out y in
      let q = shorten_ran s ds out' (shorten_unrefused s ds out' (ap fault_in g)) in
      let v = shortened_lists (ends_on s cs) (entries_on s cs) k (shorten_lists_as s cs out (Some k) h) in
      (lists_over s cs out k h).first
      ∙ (record_demands s p.0).same_lists cs ds p.2 q.2 (λ i. one_paired i v.0)
      ∙ sym (lists_over s ds out' k g).first

  -- none in phase one
  pub same_none : fault_in (shorten_answer s cs out) ≡ 0 → fault_in (settle_answer s ds out') ≡ 0
      → (shorten_answer s cs out ≡ Ok None) ↔ (settle_answer s ds out' ≡ Ok (E.None P.One))
  same_none h g =
      let y = shorten_unrefused s cs out h in
      let z = settle_unrefused s ds out' g in
      let p = shorten_ran s cs out y in
      let q = settle_ran s ds out' z in
      let d = record_demands s p.0 in
      let a = shorten_ends s cs out y in
      let b = settle_ends s ds out' z in
      let n = none_one_only (ends_on s cs) (entries_on s cs) (d.shorten_says cs p.2) in
      let m = settled_none_one (verdict_on s ds) (pairs_on s ds) in
      let i = d.shorten_none cs ds p.2 q.2 in (
        λ e. b ∙ ap Ok (m.1 (i.0 (n.0 (shorten_lists_as s cs out None e)))),
        λ e. a ∙ ap Ok (n.1 (i.1 (m.0 (value_answered _ _ (E.None P.One) (settle_is_fault s ds out') e).1))),
      )
