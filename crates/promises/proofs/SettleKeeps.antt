-- What settle's answers promise.
use mathlib.Core.Path.{◌≡◌, refl, sym, ap, ◌∙◌}
use mathlib.Core.Bool.{Bool, true, false, not}
use lib.Dec.{ltb}
use mathlib.Core.List.{List, [], ◌∷◌, ◌++◌}
use mathlib.Core.Logic.{◌≢◌, ◌↔◌}
use Prim.Native.Nat.{ℕ, zero, suc, ◌/◌, ◌≤◌, ◌<◌}
use native.Mathlib.Omega.{arith}
use lib.ListN.{length, take, drop, length-append, length-drop}
use lib.Seq.{take_at, drop_at}
use Rattle.base.specs.Claims.{First}
use Rattle.base.specs.Below.{count_below}
use Rattle.base.specs.Faults.{first_fault}
use Rattle.base.proofs.CountBelow.{count_same}
use Rattle.base.proofs.Faults.{first_answered, fault_stops, fault_passes, last_fault}
use Rattle.base.proofs.Tests.{never}
use Rattle.sheet.specs.Format.{joints}
use Rattle.sheet.specs.Refusals.{sheet_fault}
use Rattle.sheet.specs.Square.{square_of}
use Rattle.sheet.proofs.PromiseKept.{accepted_square}
use Rattle.refusals.specs.Numbers.{fault_of, fault_in, RefusedAs}
use Rattle.refusals.proofs.Numbers.{IsFault, answered_none, value_answered, refused_as, fault_answered, fault_back}
use Rattle.std.proofs.Common.{None, Ok}
use Rattle.blocking.specs.Blocking.{is_super_stable}
use Rattle.matching.specs.Matchings.{is_alone, paired_joints, pair_count}
use Rattle.blocking.proofs.SuperStableTest.{is_super_stable_means}
use Rattle.writing.specs.Written.{over}
use Rattle.roommates.specs.declared.Stage.{Stage}
use Rattle.roommates.specs.declared.Stage.TheVariants.{Proposing, Cutting, NoneOne, NoneTwo, Paired}
use Rattle.roommates.specs.Moves.{Outcome}
use Rattle.roommates.specs.Claims.{Answer, count_for, answer_of}
use Rattle.roommates.proofs.PairsWritten.{pairing_length}
use Rattle.records.specs.Records.{is_odd, worked_by, settles_by}
use Rattle.records.proofs.RecordDemands.{record_demands}
use Rattle.records.proofs.RecordRefusals.{refusal_number, record_refusals}
use Rattle.calls.specs.declared.Phase.{Phase}
use Rattle.calls.specs.declared.End.{End}
use Rattle.calls.specs.declared.End.TheVariants as E
use Rattle.offered.specs.Checks.{check_of}
use Rattle.calls.specs.Calls.{partners_of, settle_call, ended_as, settle_answer, settle_bytes, counts_as, counts_of}
use Rattle.promises.specs.Claims.{Super, PairingIs, Refuses}
use Rattle.calls.proofs.Answers.{choice_is_fault, faults_are, settled_paired, settled_none, unwritten, unpaired_unwritten}
use Rattle.promises.proofs.CheckKeeps.{check_keeps}
use Rattle.calls.proofs.LawsCalls.{pairs_few}
use Rattle.promises.proofs.Refusals.{no_fault, all_pass, refuses}
use Rattle.sheet.proofs.Numbers.{sheet_numbers, sheet_is_fault}

-- super-stable matchings are those that check holds good
check_super : (s m : List ℕ) → sheet_fault s ≡ 0 → Super s m → check_of s m ≡ Ok None
check_super s m f h =
    let w = (is_super_stable_means (joints s) (square_of s) m (accepted_square s f)).0 h in
    (check_keeps s m).check_holds.1 (f, w.0, w.1)

check_blocked : (s m : List ℕ) → is_super_stable (joints s) (square_of s) m ≡ false → check_of s m ≢ Ok None
check_blocked s m e h =
    let w = (check_keeps s m).check_holds.0 h in
    never _ ((is_super_stable_means (joints s) (square_of s) m (accepted_square s w.0)).1 (w.1, w.2)) e

-- BUFFERS, with k bytes written over their start
pub record Over (k : ℕ) (bytes before after : List ℕ) : Type 0 where
  pub first : take k after ≡ bytes
  pub past : drop k after ≡ drop k before
  pub same_length : length after ≡ length before

pub over_is : (k : ℕ) (bytes before after : List ℕ) → after ≡ over bytes before → length bytes ≡ k → k ≤ length before → Over k bytes before after
over_is k bytes before after e l h = record {
  first = rw e (take_at bytes (drop (length bytes) before) k l);
  past = rw e (drop_at bytes (drop (length bytes) before) k l ∙ ap (λ (i : ℕ). drop i before) l);
  same_length = rw e (simp (length-append, length-drop) (omega arith));
}

-- the counts' number is the first of the sheet's refusal and that of the choices
pub counts_number : (f : ℕ) (e : Outcome) → IsFault f → IsFault e.refusal → fault_of (counts_as (first_fault (f ∷ [])) e).refusal ≡ first_fault (f ∷ (e.refusal ∷ []))
counts_number f e own choice = rw (last_fault f) (go f own)
  where
    go : (f : ℕ) → IsFault f → fault_of (counts_as f e).refusal ≡ first_fault (f ∷ (e.refusal ∷ []))
    go zero h = fault_back choice ∙ sym (fault_passes 0 _ refl ∙ last_fault e.refusal)
    go (suc k) h = fault_back h ∙ sym (fault_stops (suc k) _ (λ z. omega arith))

-- .. of a working over a sheet
pub counts_first : (whole : Bool) (s cs : List ℕ) → let e = worked_by whole (joints s) (square_of s) cs in
    fault_of (counts_of whole s cs).refusal ≡ first_fault (sheet_fault s ∷ (e.refusal ∷ []))
counts_first whole s cs =
    counts_number (sheet_fault s) (worked_by whole (joints s) (square_of s) cs) (sheet_is_fault s) (choice_is_fault whole (joints s) (square_of s) cs)

-- an answer by the theory's: a count matters beside a pairing only
settled_for : (v : Stage) (c : ℕ) → ended_as v c ≡ ended_as v (count_for v c)
settled_for Proposing c = refl
settled_for Cutting c = refl
settled_for NoneOne c = refl
settled_for NoneTwo c = refl
settled_for Paired c = refl

-- THE CALL: its first refusal, its working's verdict, its count
abbrev pub verdict_on : List ℕ → List ℕ → Stage
verdict_on s cs = (settles_by (joints s) (square_of s) cs).work_is.stage

abbrev pub pairs_on : List ℕ → List ℕ → ℕ
pairs_on s cs = pair_count (partners_of (joints s) (square_of s) cs)

module _ (s cs out : List ℕ) where
  abbrev fault : ℕ
  fault = first_fault (settle_call s cs out).faults

  -- an accepted sheet, room for a pairing, and choices within the rules
  pub settle_ran : fault ≡ 0 → (sheet_fault s ≡ 0) × (joints s ≤ length out) × ((settles_by (joints s) (square_of s) cs).refusal ≡ 0)
  settle_ran = no_fault (sheet_fault s) (length out) (joints s) _

  pub settle_is_fault : IsFault fault
  settle_is_fault = faults_are (sheet_fault s) (ltb (length out) (joints s)) _ (sheet_is_fault s) (choice_is_fault true (joints s) (square_of s) cs)

  pub settle_unrefused : fault_in (settle_answer s cs out) ≡ 0 → fault ≡ 0
  settle_unrefused h = sym (fault_answered (ended_as (verdict_on s cs) (pairs_on s cs)) fault settle_is_fault) ∙ h

  pub settle_ends : fault ≡ 0 → settle_answer s cs out ≡ Ok (ended_as (verdict_on s cs) (pairs_on s cs))
  settle_ends h = sym (answered_none _ fault h)

  says : (k : ℕ) → RefusedAs (settle_answer s cs out) k ↔ ((fault ≡ k) × (1 ≤ k))
  says = refused_as (ended_as (verdict_on s cs) (pairs_on s cs)) fault settle_is_fault

  pub settle_first : (k : ℕ) → RefusedAs (settle_answer s cs out) k ↔ First k (settle_call s cs out).faults
  settle_first k =
      let b = first_answered (settle_call s cs out).faults k in
      (λ h. b.0 ((says k).0 h), λ h. (says k).1 (b.1 h))

  pub settle_refuses : Refuses (sheet_fault s) (fault_of (counts_of true s cs).refusal) (joints s) (length out) (λ k. RefusedAs (settle_answer s cs out) k)
  settle_refuses =
      rw (counts_first true s cs)
      (refuses (sheet_fault s) (length out) (joints s) (settles_by (joints s) (square_of s) cs).refusal (sheet_numbers s)
      (refusal_number true (joints s) (square_of s) cs)
      (RefusedAs (settle_answer s cs out))
      says)

  pub settle_unwritten : (k : ℕ) → RefusedAs (settle_answer s cs out) k → settle_bytes s cs out ≡ out
  settle_unwritten k h = let r = (says k).0 h in unwritten fault (verdict_on s cs) _ out (omega (arith, r.0, r.1))

  -- a call that ends with x
  module _ (x : End ℕ) (h : settle_answer s cs out ≡ Ok x) where
    none_refused : fault ≡ 0
    none_refused = settle_unrefused (ap fault_in h)

    ended : ended_as (verdict_on s cs) (pairs_on s cs) ≡ x
    ended = (value_answered _ fault x settle_is_fault h).1

  pub settle_none : (p : Phase) → settle_answer s cs out ≡ Ok (E.None p)
      → (settle_bytes s cs out ≡ out) × ((m : List ℕ) → (is_super_stable (joints s) (square_of s) m ≡ false) × (check_of s m ≢ Ok None))
  settle_none p h =
      let r = settle_ran (none_refused (E.None p) h) in
      let other : verdict_on s cs ≢ Paired = settled_none (verdict_on s cs) (pairs_on s cs) p (ended (E.None p) h) in
      let blocked : (m : List ℕ) → is_super_stable (joints s) (square_of s) m ≡ false = λ m. (record_demands s r.0).none_is cs m r.2 other in
      (unpaired_unwritten fault (verdict_on s cs) _ out other, λ m. (blocked m, check_blocked s m (blocked m)))

  pub settle_paired : (k : ℕ) → settle_answer s cs out ≡ Ok (E.Paired k) → PairingIs s out (settle_bytes s cs out) k
  settle_paired k h =
      let z = none_refused (E.Paired k) h in
      let r = settle_ran z in
      let v = settled_paired (verdict_on s cs) (pairs_on s cs) k (ended (E.Paired k) h) in
      let d = record_demands s r.0 in
      let w : settle_bytes s cs out ≡ over (partners_of (joints s) (square_of s) cs) out = rw (z, v.0) refl in
      let o : Over (joints s) (partners_of (joints s) (square_of s) cs) out (settle_bytes s cs out)
      = over_is (joints s) (partners_of (joints s) (square_of s) cs) out (settle_bytes s cs out) w
      (pairing_length (joints s) (settles_by (joints s) (square_of s) cs).work_is.lists) r.1 in
      let good : Super s (partners_of (joints s) (square_of s) cs) = d.is_super cs r.2 v.0 in
      record {
        super_stable = rw o.first good;
        checked = rw o.first (check_super s _ r.0 good);
        pairs = rw o.first v.1;
        at_most = omega (arith, v.1, pairs_few (joints s) (accepted_square s r.0).few_joints (settles_by (joints s) (square_of s) cs).work_is.lists);
        same_joints = λ m super a l. rw o.first (d.same_joints cs m a r.2 v.0 super l);
        past = o.past;
        same_length = o.same_length;
      }

-- records left off earlier
pub settle_beginning : (s cs ds out : List ℕ) → is_odd (length cs) ≡ false → fault_in (settle_answer s (cs ++ ds) out) ≡ 0 → fault_in (settle_answer s cs out) ≡ 0
settle_beginning s cs ds out even h =
    let r = settle_ran s (cs ++ ds) out (settle_unrefused s (cs ++ ds) out h) in
    let z = (record_refusals true (joints s) (square_of s) cs).beginning ds even r.2 in
    fault_answered (ended_as (verdict_on s cs) (pairs_on s cs)) _ (settle_is_fault s cs out) ∙ all_pass (sheet_fault s) (length out) (joints s) _ r.0 r.1 z

-- two calls that refuse nothing
pub settle_same : (s cs ds out out' : List ℕ) → fault_in (settle_answer s cs out) ≡ 0 → fault_in (settle_answer s ds out') ≡ 0
    → settle_answer s cs out ≡ settle_answer s ds out'
settle_same s cs ds out out' h g =
    let y = settle_unrefused s cs out h in
    let z = settle_unrefused s ds out' g in
    let p = settle_ran s cs out y in
    let q = settle_ran s ds out' z in
    let e : answer_of (joints s) (settles_by (joints s) (square_of s) cs).work_is ≡ answer_of (joints s) (settles_by (joints s) (square_of s) ds).work_is
    = (record_demands s p.0).one_answer cs ds p.2 q.2 in
    settle_ends s cs out y ∙ ap Ok (settled_for (verdict_on s cs) (pairs_on s cs))
    ∙ ap (λ (a : Answer). Ok (ended_as a.verdict a.count)) e
    ∙ sym (ap Ok (settled_for (verdict_on s ds) (pairs_on s ds))) ∙ sym (settle_ends s ds out' z)

-- EVERY SUPER-STABLE MATCHING has as many pairs as settle's: the same joints are paired
alone_alike : (n : ℕ) (m o : List ℕ) → length m ≡ n → length o ≡ n → ((a : ℕ) → a < n → is_alone m a ≡ is_alone o a) → paired_joints m ≡ paired_joints o
unfolding paired_joints
alone_alike n m o e g h =
    let counted : (l : List ℕ) → length l ≡ n → count_below (length l) (λ a. not (is_alone l a)) ≡ count_below n (λ a. not (is_alone l a))
    = λ l f. ap (λ (i : ℕ). count_below i (λ a. not (is_alone l a))) f in
    counted m e ∙ count_same n _ _ (λ a lt. ap not (h a lt)) ∙ sym (counted o g)

pub super_pairs : (s before after m : List ℕ) (k : ℕ) → sheet_fault s ≡ 0 → PairingIs s before after k → Super s m → pair_count m ≡ k
super_pairs s before after m k f r h =
    let long : (o : List ℕ) → Super s o → length o ≡ joints s = λ o x. ((is_super_stable_means (joints s) (square_of s) o (accepted_square s f)).0 x).0 in
    let own = take (joints s) after in
    ap (λ (i : ℕ). i / 2) (alone_alike (joints s) m own (long m h) (long own r.super_stable) (r.same_joints m h)) ∙ r.pairs
