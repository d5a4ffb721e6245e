-- What a caller of settle, shorten and the counts may conclude from their answers and from the buffer after them.
use Rattle.std.specs.Prelude.{◌≡◌, Bool, true, false, List, [], ◌∷◌, ◌++◌, ◌⊎◌, ◌≢◌, ◌↔◌, ℕ, ◌+◌, ◌*◌, ◌/◌, ◌%◌, ◌≤◌, ◌<◌}
use Rattle.std.specs.Prelude.{Some, None, Ok, eqb, length, take, drop}
use Rattle.base.specs.Claims.{First}
use Rattle.refusals.specs.Numbers.{fault_of, fault_in, RefusedAs}
use Rattle.sections.specs.Entries.{band_in}
use Rattle.sections.specs.Claims.{Each}
use Rattle.square.specs.Mutual.{listed_pairs}
use Rattle.parents.specs.Claims.{IsSection}
use Rattle.sheet.specs.Format.{joints, rank_count, count_start, entries_of}
use Rattle.sheet.specs.Refusals.{sheet_fault}
use Rattle.sheet.specs.Square.{at, square_of}
use Rattle.sheet.specs.Claims.{OfSheet}
use Rattle.matching.specs.Matchings.{partner, pair_count, pair_number}
use Rattle.blocking.specs.Blocking.{is_super_stable}
use Rattle.matching.specs.Plain.{Matching}
use Rattle.blocking.specs.Plain.{SuperStable, LowestBlocking}
use Rattle.roommates.specs.declared.Stage.TheVariants.{Cutting}
use Rattle.roommates.specs.PhaseOne.{Work}
use Rattle.roommates.specs.Moves.{begun}
use Rattle.roommates.specs.Runs.{OneEnded, Arrived}
use Rattle.roommates.specs.Histories.{proposals_in, steps_to, cuts_to}
use Rattle.roommates.specs.Claims.{Made, LongestList}
use Rattle.records.specs.Records.{records_of, is_odd, worked_by}
use Rattle.records.specs.Standing.{standing, step_bytes}
use Rattle.records.specs.Claims.{RecordRefused, BytesRefused}
use Rattle.relisting.specs.Written.{left, bytes_of, count_bytes, without, with_third}
use Rattle.relisting.specs.Claims.{SheetWith}
use Rattle.offered.specs.Checks.{check_faults, check_of}
use Rattle.calls.specs.declared.Phase.{Phase}
use Rattle.calls.specs.declared.Phase.TheVariants as P
use Rattle.calls.specs.declared.End.TheVariants as E
use Rattle.calls.specs.Calls.{settle_call, settle_answer, settle_bytes, shorten_call, shorten_answer, shorten_bytes}
use Rattle.calls.specs.Calls.{counts, counts_of}

-- m is a super-stable matching of the sheet s
abbrev pub Super : List ℕ → List ℕ → Type 0
Super s m = is_super_stable (joints s) (square_of s) m ≡ true

-- A pairing of k pairs: the first n bytes of the buffer `after`, which was `before`.
pub record PairingIs (s before after : List ℕ) (k : ℕ) : Type 0 where
  pub super_stable : Super s (take (joints s) after)
  pub checked : check_of s (take (joints s) after) ≡ Ok None
  pub pairs : pair_count (take (joints s) after) ≡ k
  pub at_most : k ≤ 64
  -- every super-stable matching pairs the same joints
  pub same_joints : (m : List ℕ) → Super s m → (a : ℕ) → a < joints s → eqb (partner m a) 255 ≡ eqb (partner (take (joints s) after) a) 255
  -- the bytes past it are unchanged
  pub past : drop (joints s) after ≡ drop (joints s) before
  pub same_length : length after ≡ length before

-- The shortened lists, of k entries: the first 2 + 3 × k bytes of the buffer `after`, which was `before`.
pub record ListsAre (s before after : List ℕ) (k : ℕ) : Type 0 where
  -- where phase one ended
  pub end : Work
  pub ended : OneEnded (joints s) (square_of s) end
  -- the entries of the sheet whose pairs are not struck there, with the sheet's bands and in the sheet's order, after their count
  pub entries : take (2 + 3 * k) after ≡ count_bytes k ++ bytes_of (left end.lists (entries_of s))
  pub how_many : length (left end.lists (entries_of s)) ≡ k
  -- each of them is returned
  pub returned : Each (λ e. 0 < band_in (entries_of s) e.other e.joint) (left end.lists (entries_of s))
  -- a sheet with the same labels and these bytes as its rankings, and nothing or any parents after them, is accepted, with the lists left as its square
  pub reads_back : (parents : List ℕ) → IsSection (joints s) parents → SheetWith s end.lists parents (take (count_start s) s ++ (take (2 + 3 * k) after ++ parents))
  pub at_most : k ≤ 128 * 127
  pub count_first : take 2 after ≡ (k % 256) ∷ ((k / 256) ∷ [])
  pub past : drop (2 + 3 * k) after ≡ drop (2 + 3 * k) before
  pub same_length : length after ≡ length before

-- The counts of an accepted sheet's working: the joints that its steps reached, and its cuts, one that ends in none included.
pub record CountsAre (whole : Bool) (s cs : List ℕ) : Type 0 where
  pub arrived : Arrived whole (joints s) (square_of s) (worked_by whole (joints s) (square_of s) cs).work_is
  pub proposals_are : (counts_of whole s cs).proposals ≡ proposals_in (steps_to arrived).1
  pub cuts_are : (counts_of whole s cs).cuts ≡ cuts_to arrived

-- When a call refuses, number by number and both ways. The sheet's own refusal is f (0 for none), `choice` is the one that the counts name beside the working,
-- and `need` bytes are due in a buffer of `room`.
pub record Refuses (f choice need room : ℕ) (Refused : ℕ → Type 0) : Type 0 where
  pub numbers : (k : ℕ) → Refused k → OfSheet k ⊎ ((k ≡ 9) ⊎ ((11 ≤ k) × (k ≤ 15)))
  pub by_sheet : (k : ℕ) → OfSheet k → Refused k ↔ (f ≡ k)
  pub by_buffer : Refused 9 ↔ ((f ≡ 0) × (room < need))
  pub by_choice : (k : ℕ) → 11 ≤ k → k ≤ 15 → Refused k ↔ ((need ≤ room) × (choice ≡ k))

pub record CallsKeep (s : List ℕ) : Type 0 where
  -- SETTLE. A pairing is super-stable. After none every matching is blocked, and none and a refusal write nothing.
  pub settle_paired : (cs out : List ℕ) (k : ℕ) → settle_answer s cs out ≡ Ok (E.Paired k) → PairingIs s out (settle_bytes s cs out) k
  pub settle_none : (cs out : List ℕ) (p : Phase) → settle_answer s cs out ≡ Ok (E.None p)
      → (settle_bytes s cs out ≡ out) × ((m : List ℕ) → (is_super_stable (joints s) (square_of s) m ≡ false) × (check_of s m ≢ Ok None))
  pub settle_refused : (cs out : List ℕ) (k : ℕ) → RefusedAs (settle_answer s cs out) k → settle_bytes s cs out ≡ out
  -- the first of its refusals is answered, and with no other number
  pub settle_first : (cs out : List ℕ) (k : ℕ) → RefusedAs (settle_answer s cs out) k ↔ First k (settle_call s cs out).faults
  pub settle_refuses : (cs out : List ℕ)
      → Refuses (sheet_fault s) (fault_of (counts_of true s cs).refusal) (joints s) (length out) (λ k. RefusedAs (settle_answer s cs out) k)
  -- two calls that refuse nothing: the same verdict, phase and count of pairs
  pub settle_same : (cs ds out out' : List ℕ) → fault_in (settle_answer s cs out) ≡ 0 → fault_in (settle_answer s ds out') ≡ 0
      → settle_answer s cs out ≡ settle_answer s ds out'
  -- SHORTEN. Only lists are written.
  pub shorten_lists : (cs out : List ℕ) (k : ℕ) → shorten_answer s cs out ≡ Ok (Some k) → ListsAre s out (shorten_bytes s cs out) k
  pub shorten_none : (cs out : List ℕ) → shorten_answer s cs out ≡ Ok None → shorten_bytes s cs out ≡ out
  pub shorten_refused : (cs out : List ℕ) (k : ℕ) → RefusedAs (shorten_answer s cs out) k → shorten_bytes s cs out ≡ out
  pub shorten_first : (cs out : List ℕ) (k : ℕ) → RefusedAs (shorten_answer s cs out) k ↔ First k (shorten_call s cs out).faults
  pub shorten_refuses : (cs out : List ℕ)
      → Refuses (sheet_fault s) (fault_of (counts_of false s cs).refusal) (2 + 3 * rank_count s) (length out) (λ k. RefusedAs (shorten_answer s cs out) k)
  pub shorten_not_12 : (cs out : List ℕ) → RefusedAs (shorten_answer s cs out) 12 → ⊥
  -- two calls that refuse nothing: the same answer, and the same bytes written
  pub shorten_same : (cs ds out out' : List ℕ) → fault_in (shorten_answer s cs out) ≡ 0 → fault_in (shorten_answer s ds out') ≡ 0
      → shorten_answer s cs out ≡ shorten_answer s ds out'
  pub same_bytes : (cs ds out out' : List ℕ) (k : ℕ) → shorten_answer s cs out ≡ Ok (Some k) → shorten_answer s ds out' ≡ Ok (Some k)
      → take (2 + 3 * k) (shorten_bytes s cs out) ≡ take (2 + 3 * k) (shorten_bytes s ds out')
  -- shorten says none exactly where settle says none in phase one
  pub same_none : (cs ds out out' : List ℕ) → fault_in (shorten_answer s cs out) ≡ 0 → fault_in (settle_answer s ds out') ≡ 0
      → (shorten_answer s cs out ≡ Ok None) ↔ (settle_answer s ds out' ≡ Ok (E.None P.One))
  -- left off after any record, an even number of bytes: a beginning of records within the rules is within them
  pub settle_beginning : (cs ds out : List ℕ) → is_odd (length cs) ≡ false → fault_in (settle_answer s (cs ++ ds) out) ≡ 0 → fault_in (settle_answer s cs out) ≡ 0
  pub shorten_beginning : (cs ds out : List ℕ) → is_odd (length cs) ≡ false → fault_in (shorten_answer s (cs ++ ds) out) ≡ 0 → fault_in (shorten_answer s cs out) ≡ 0
  -- 11 to 15: an odd number of bytes, or some record that may not come after the ones before it, for the reason that the number says
  pub choice_refused : (whole : Bool) (cs : List ℕ) (k : ℕ) → 11 ≤ k → k ≤ 15
      → (fault_of (counts_of whole s cs).refusal ≡ k) ↔ ((sheet_fault s ≡ 0) × BytesRefused whole (joints s) (square_of s) cs k)
  -- COUNTS, beside refused choices too: of settle's working (true) and of shorten's (false)
  pub counts_are : (whole : Bool) (cs : List ℕ) → sheet_fault s ≡ 0 → CountsAre whole s cs
  pub few_proposals : (whole : Bool) (cs : List ℕ) → (counts_of whole s cs).proposals ≤ joints s * joints s
  -- no more cuts than listed pairs, which are at most half the sheet's entries
  pub few_cuts : (whole : Bool) (cs : List ℕ) → (counts_of whole s cs).cuts ≤ listed_pairs (entries_of s)
  pub pairs_half : sheet_fault s ≡ 0 → 2 * listed_pairs (entries_of s) ≤ rank_count s
  pub no_cuts : (cs : List ℕ) → (counts_of false s cs).cuts ≡ 0
  -- both are small whatever the sheet
  pub counts_small : (whole : Bool) (cs : List ℕ) → ((counts_of whole s cs).proposals ≤ 16384) × ((counts_of whole s cs).cuts ≤ 16384)
  -- without choices no accepted sheet is refused
  pub no_choices : (whole : Bool) → sheet_fault s ≡ 0 → fault_of (counts_of whole s []).refusal ≡ 0

-- MARKS AND RETURNS. The steps standing after the records cs, as records of kind 0.
abbrev pub standing_bytes : List ℕ → List ℕ
standing_bytes cs = step_bytes (standing (records_of cs))

-- Where nothing is refused they alone get the same answer, write the same bytes and have the same counts.
pub record CallReplayed (s cs : List ℕ) : Type 0 where
  pub settle_replayed : (out : List ℕ) → fault_in (settle_answer s cs out) ≡ 0
      → (settle_answer s cs out ≡ settle_answer s (standing_bytes cs) out) × (settle_bytes s cs out ≡ settle_bytes s (standing_bytes cs) out)
  pub shorten_replayed : (out : List ℕ) → fault_in (shorten_answer s cs out) ≡ 0
      → (shorten_answer s cs out ≡ shorten_answer s (standing_bytes cs) out) × (shorten_bytes s cs out ≡ shorten_bytes s (standing_bytes cs) out)
  pub counts_replayed : (whole : Bool) → fault_of (counts_of whole s cs).refusal ≡ 0 → counts_of whole s cs ≡ counts_of whole s (standing_bytes cs)
  -- beside a refused record the counts are of the steps then standing, which take a fresh working there
  pub counts_beside : (whole : Bool) (k : ℕ) → sheet_fault s ≡ 0 → is_odd (length cs) ≡ false
      → (r : RecordRefused whole (joints s) (square_of s) (records_of cs) k) → counts_of whole s cs ≡ counts k r.there.proposals r.there.cuts

abbrev pub CallsReplayed : Type 0
CallsReplayed = (s cs : List ℕ) → CallReplayed s cs

-- WHERE CHOICES HAVE RUN OUT in phase two. The steps cs were made and left the working w: to leave off there is to choose the joint x with
-- the longest remaining list, and among equals the highest number. Other records get what the steps standing after them get (CallsReplayed).
pub record LeftOffAlike (s cs : List ℕ) (w : Work) (x : ℕ) : Type 0 where
  pub longest : LongestList (joints s) w.lists x
  pub settle_alike : (out : List ℕ) → (settle_answer s (step_bytes cs) out ≡ settle_answer s (step_bytes (cs ++ (x ∷ []))) out)
      × (settle_bytes s (step_bytes cs) out ≡ settle_bytes s (step_bytes (cs ++ (x ∷ []))) out)
  pub counts_alike : counts_of true s (step_bytes cs) ≡ counts_of true s (step_bytes (cs ++ (x ∷ [])))

abbrev pub LongestIsCut : Type 0
LongestIsCut = (s cs : List ℕ) (w : Work) → sheet_fault s ≡ 0 → Made true (joints s) (begun true (joints s) (square_of s)) cs w → w.stage ≡ Cutting
    → (x : ℕ) × LeftOffAlike s cs w x

-- CHECK, for every sheet s and offered pairing m.
pub record CheckKeeps (s m : List ℕ) : Type 0 where
  pub check_first : (k : ℕ) → RefusedAs (check_of s m) k ↔ First k (check_faults s m)
  pub check_numbers : (k : ℕ) → RefusedAs (check_of s m) k → OfSheet k ⊎ (k ≡ 10)
  -- a refused sheet hands on its number; 10: the sheet is accepted, and what is offered is no matching
  pub check_sheet : (k : ℕ) → OfSheet k → RefusedAs (check_of s m) k ↔ (sheet_fault s ≡ k)
  pub check_ten : RefusedAs (check_of s m) 10
      ↔ ((sheet_fault s ≡ 0) × ((length m ≡ joints s) × Matching (joints s) (at (square_of s)) (partner m) → ⊥))
  -- holds: the sheet is accepted, and what is offered is super-stable
  pub check_holds : check_of s m ≡ Ok None
      ↔ (sheet_fault s ≡ 0) × (length m ≡ joints s) × SuperStable (joints s) (at (square_of s)) (partner m)
  -- blocked: the sheet is accepted, what is offered is a matching, and the number is that of the lowest blocking pair
  pub check_blocked : (k : ℕ) → check_of s m ≡ Ok (Some k)
      ↔ (sheet_fault s ≡ 0)
      × ((length m ≡ joints s) × Matching (joints s) (at (square_of s)) (partner m))
      × LowestBlocking (joints s) (at (square_of s)) (partner m) k

-- TWO SHEETS that settle, the counts and check answer alike.
pub record SameAnswers (s r : List ℕ) : Type 0 where
  pub settle_alike : (cs out : List ℕ) → (settle_answer s cs out ≡ settle_answer r cs out) × (settle_bytes s cs out ≡ settle_bytes r cs out)
  pub counts_alike : (whole : Bool) (cs : List ℕ) → counts_of whole s cs ≡ counts_of whole r cs
  pub check_alike : (m : List ℕ) → check_of s m ≡ check_of r m

abbrev pub ShortenedAlike : List ℕ → List ℕ → List ℕ → List ℕ → Type 0
ShortenedAlike s r cs out = (shorten_answer s cs out ≡ shorten_answer r cs out) × (shorten_bytes s cs out ≡ shorten_bytes r cs out)

-- ONE-SIDED ENTRIES, whose candidate does not list their joint, count as unlisted everywhere.
pub record OneSided (s : List ℕ) : Type 0 where
  -- The sheet without them gets the same answers; for shorten where the buffer is long enough for s, since its size still goes by m.
  pub alike : SameAnswers s (without s)
  pub shorten_alike : (cs out : List ℕ) → 2 + 3 * rank_count s ≤ length out → ShortenedAlike s (without s) cs out
  -- An offered pairing in which one of two partners has no entry for the other is refused by 10.
  pub offered_ten : (m : List ℕ) (a : ℕ) → a < joints s → partner m a ≢ 255
      → (band_in (entries_of s) a (partner m a) ≡ 0) ⊎ (band_in (entries_of s) (partner m a) a ≡ 0) → RefusedAs (check_of s m) 10
  -- Only two joints that list each other block.
  pub blocked_both : (m : List ℕ) (k : ℕ) → check_of s m ≡ Ok (Some k)
      → (a : ℕ) × (b : ℕ) × (k ≡ pair_number a b) × (0 < band_in (entries_of s) a b) × (0 < band_in (entries_of s) b a)

abbrev pub Unlisted : Type 0
Unlisted = (s : List ℕ) → sheet_fault s ≡ 0 → OneSided s

-- PARENTS play no part: two accepted sheets with the same number of joints and the same rankings, with or without parents, get the same answers.
pub record ParentsUnseen (s r : List ℕ) : Type 0 where
  pub alike : SameAnswers s r
  pub shorten_alike : (cs out : List ℕ) → ShortenedAlike s r cs out

abbrev pub SameRankings : Type 0
SameRankings = (s r : List ℕ) → sheet_fault s ≡ 0 → sheet_fault r ≡ 0 → joints s ≡ joints r → entries_of s ≡ entries_of r → ParentsUnseen s r

-- so they may be left out, put in or changed
abbrev pub ParentsChanged : Type 0
ParentsChanged = (s parents : List ℕ) → sheet_fault s ≡ 0 → IsSection (joints s) parents → (sheet_fault (with_third s parents) ≡ 0) × ParentsUnseen s (with_third s parents)
