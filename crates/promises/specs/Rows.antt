-- The starred rows of documents 01 and 02, rows of the same sheets that call shorten and the counts, rows with marks and returns, rows that tell
-- the rule from others, and rows of a sheet with an entry that is not returned: for each call what it answers, and the buffer before and after
-- settle and shorten.
use Rattle.std.specs.Prelude.{◌≡◌, Bool, true, false, ◌||◌, cond}
use Rattle.std.specs.Prelude.{List, [], ◌∷◌, ◌++◌, Option, Some, None, Result, Ok, Err, ℕ, suc, ◌+◌, ◌%◌, ◌/◌, eqb, length, replicate}
use Rattle.base.specs.Below.{joined}
use Rattle.refusals.specs.declared.Refusal.{Refusal}
use Rattle.refusals.specs.declared.Refusal.TheVariants.{
  SheetCutShort,
  EntryNotAfter,
  BytesAfterSheet,
  OutTooShort,
  NoPairingOffered,
  ChoiceDoesNotWait,
  ChoiceHasNoList,
  ChoiceLeftOver,
  BadRecord,
  NoSuchMark,
  BadParents,
}
use Rattle.records.specs.Standing.{step_bytes}
use Rattle.offered.specs.Checks.{check_of}
use Rattle.calls.specs.declared.Phase.TheVariants as P
use Rattle.calls.specs.declared.End.TheVariants as E
use Rattle.calls.specs.declared.End.{End}
use Rattle.calls.specs.Calls.{settle_answer, settle_bytes, shorten_answer, shorten_bytes, counts, counts_of}

-- A joint's list as document 01 writes it: from the best to the worst band, each with the joints that are tied in it.
abbrev pub Ranks : Type 0
Ranks = List (List ℕ)

unfoldable pub is_in : ℕ → List ℕ → Bool
is_in b [] = false
is_in b (c ∷ cs) = eqb b c || is_in b cs

-- the band of b, where the first band is k; 0 for unlisted
unfoldable pub band_from : ℕ → Ranks → ℕ → ℕ
band_from k [] b = 0
band_from k (tied ∷ worse) b = cond (is_in b tied) k (band_from (suc k) worse b)

-- a's entries, as bytes, with the candidates below n; those of the joints from a on, n in all
abbrev pub entries_below : ℕ → ℕ → Ranks → List ℕ
entries_below n a l = joined n (λ b. cond (eqb (band_from 1 l b) 0) [] (a ∷ b ∷ band_from 1 l b ∷ []))

unfoldable pub entries_onward : ℕ → ℕ → List Ranks → List ℕ
entries_onward n a [] = []
entries_onward n a (l ∷ lists) = entries_below n a l ++ entries_onward n (suc a) lists

-- n labels a, b, c, ..: a letter, then 15 zero bytes
abbrev pub letters : ℕ → List ℕ
letters n = joined n (λ i. (97 + i) ∷ replicate 15 0)

-- the sheet of such lists: each section after its count
abbrev pub counted : List ℕ → List ℕ
counted bytes = (length bytes / 3 % 256) ∷ (length bytes / 3 / 256) ∷ bytes

unfoldable pub sheet_of : List Ranks → List ℕ
sheet_of lists = length lists ∷ letters (length lists) ++ counted (entries_onward (length lists) 0 lists)

-- bands of one, two and three joints
abbrev pub only : ℕ → List ℕ
only a = a ∷ []

abbrev pub tie : ℕ → ℕ → List ℕ
tie a b = a ∷ b ∷ []

abbrev pub tie₃ : ℕ → ℕ → ℕ → List ℕ
tie₃ a b c = a ∷ b ∷ c ∷ []

-- THE SHEETS, by the row that first has them: n = 0; one joint, no entries; then the lists of joints 0, 1, 2, 3
abbrev pub sheet_a : List ℕ
sheet_a = sheet_of []

abbrev pub sheet_b : List ℕ
sheet_b = sheet_of ([] ∷ [])

abbrev pub sheet_c : List ℕ
sheet_c = sheet_of ((only 1 ∷ []) ∷ (only 0 ∷ []) ∷ [])

abbrev pub sheet_d : List ℕ
sheet_d = sheet_of ((tie 1 2 ∷ []) ∷ (tie 0 2 ∷ []) ∷ (tie 0 1 ∷ []) ∷ [])

abbrev pub sheet_e : List ℕ
sheet_e = sheet_of ((only 3 ∷ only 2 ∷ []) ∷ (only 3 ∷ []) ∷ (only 0 ∷ []) ∷ (tie 0 1 ∷ []) ∷ [])

abbrev pub sheet_f : List ℕ
sheet_f =
    sheet_of
    ((only 1 ∷ only 2 ∷ only 3 ∷ [])
    ∷ (only 2 ∷ only 0 ∷ only 3 ∷ [])
    ∷ (only 0 ∷ only 1 ∷ only 3 ∷ [])
    ∷ (tie₃ 0 1 2 ∷ [])
    ∷ [])

abbrev pub sheet_g : List ℕ
sheet_g = sheet_of ((only 1 ∷ only 3 ∷ []) ∷ (only 2 ∷ only 0 ∷ []) ∷ (only 3 ∷ only 1 ∷ []) ∷ (only 0 ∷ only 2 ∷ []) ∷ [])

abbrev pub sheet_i : List ℕ
sheet_i =
    sheet_of ((only 1 ∷ tie 2 3 ∷ []) ∷ (only 0 ∷ tie 2 3 ∷ []) ∷ (only 3 ∷ tie 0 1 ∷ []) ∷ (only 2 ∷ tie 0 1 ∷ []) ∷ [])

-- 0: 1; 1: 2 0; 2: 1: in the order 0, 1, 2 each makes a proposal; in the order 1, 2, which is by the longest list, 0 is struck before it makes any
abbrev pub sheet_three : List ℕ
sheet_three = sheet_of ((only 1 ∷ []) ∷ (only 2 ∷ only 0 ∷ []) ∷ (only 1 ∷ []) ∷ [])

-- 0: 1 5; 1: 2 4 0; 2: 3 1; 3: 4 2; 4: 5 1 3; 5: 0 4: phase one strikes nothing, and 1 and 4 have the longest lists
abbrev pub sheet_ring : List ℕ
sheet_ring =
    sheet_of
    ((only 1 ∷ only 5 ∷ [])
    ∷ (only 2 ∷ only 4 ∷ only 0 ∷ [])
    ∷ (only 3 ∷ only 1 ∷ [])
    ∷ (only 4 ∷ only 2 ∷ [])
    ∷ (only 5 ∷ only 1 ∷ only 3 ∷ [])
    ∷ (only 0 ∷ only 4 ∷ [])
    ∷ [])

-- 0: 2 1; 1: 0; 2 lists nobody, so joint 0's first is not returned
abbrev pub sheet_one_sided : List ℕ
sheet_one_sided = sheet_of ((only 2 ∷ only 1 ∷ []) ∷ (only 0 ∷ []) ∷ [] ∷ [])

-- A ROW: settle or shorten with its choices and buffer, its answer and the buffer after it; check with a pairing, and its answer; the counts
-- of settle's working (true) or shorten's: the number of a refused choice, proposals, cuts.
pub data Row : Type 0 where
  settle_row : (sheet choices before : List ℕ) → Result (End ℕ) Refusal → (after : List ℕ) → Row
  shorten_row : (sheet choices before : List ℕ) → Result (Option ℕ) Refusal → (after : List ℕ) → Row
  check_row : (sheet pairing : List ℕ) → Result (Option ℕ) Refusal → Row
  counts_row : (whole : Bool) (sheet choices : List ℕ) → (number made cut : ℕ) → Row

abbrev pub Holds : Row → Type 0
Holds (settle_row s cs before answer after) = (settle_answer s cs before ≡ answer) × (settle_bytes s cs before ≡ after)
Holds (shorten_row s cs before answer after) = (shorten_answer s cs before ≡ answer) × (shorten_bytes s cs before ≡ after)
Holds (check_row s m answer) = check_of s m ≡ answer
Holds (counts_row whole s cs number made cut) = counts_of whole s cs ≡ counts number made cut

-- choices: joints one after another; a joint, a mark, a return
abbrev pub steps : List ℕ → List ℕ
steps cs = step_bytes cs

abbrev pub step : ℕ → List ℕ
step x = 0 ∷ x ∷ []

abbrev pub mark : ℕ → List ℕ
mark m = 1 ∷ m ∷ []

abbrev pub back : ℕ → List ℕ
back m = 2 ∷ m ∷ []

-- a buffer of b bytes, before a call
abbrev pub buffer : ℕ → List ℕ
buffer b = replicate b 9

-- an entry before others: joint, candidate, band
abbrev pub entry : ℕ → ℕ → ℕ → List ℕ → List ℕ
entry a b k rest = a ∷ b ∷ k ∷ rest

-- THE TABLE. Each buffer has two bytes more than there need be: they stay 9, and so do those of entries that are struck.
abbrev pub rows : List Row
rows =
    -- a, b, c
    settle_row sheet_a [] (buffer 2) (Ok (E.Paired 0)) (9 ∷ 9 ∷ [])
    ∷ settle_row sheet_b [] (buffer 3) (Ok (E.Paired 0)) (255 ∷ 9 ∷ 9 ∷ [])
    ∷ settle_row sheet_c [] (buffer 4) (Ok (E.Paired 1)) (1 ∷ 0 ∷ 9 ∷ 9 ∷ [])
    -- d, e, f
    ∷ settle_row sheet_d [] (buffer 5) (Ok (E.None P.One)) (buffer 5)
    ∷ settle_row sheet_e [] (buffer 6) (Ok (E.None P.One)) (buffer 6)
    ∷ settle_row sheet_f [] (buffer 6) (Ok (E.None P.Two)) (buffer 6)
    -- g, h, h', i
    ∷ settle_row sheet_g [] (buffer 6) (Ok (E.Paired 2)) (1 ∷ 0 ∷ 3 ∷ 2 ∷ 9 ∷ 9 ∷ [])
    ∷ settle_row sheet_g (steps (0 ∷ 1 ∷ 2 ∷ 3 ∷ 1 ∷ [])) (buffer 6) (Ok (E.Paired 2)) (1 ∷ 0 ∷ 3 ∷ 2 ∷ 9 ∷ 9 ∷ [])
    ∷ settle_row sheet_g (steps (0 ∷ 1 ∷ 2 ∷ 3 ∷ 0 ∷ [])) (buffer 6) (Ok (E.Paired 2)) (3 ∷ 2 ∷ 1 ∷ 0 ∷ 9 ∷ 9 ∷ [])
    ∷ settle_row sheet_i [] (buffer 6) (Ok (E.Paired 2)) (1 ∷ 0 ∷ 3 ∷ 2 ∷ 9 ∷ 9 ∷ [])
    -- j
    ∷ check_row sheet_g (1 ∷ 0 ∷ 255 ∷ 255 ∷ []) (Ok (Some 2))
    -- k, l, m
    ∷ settle_row sheet_c (steps (0 ∷ 1 ∷ 0 ∷ [])) (buffer 4) (Err ChoiceLeftOver) (buffer 4)
    ∷ settle_row sheet_g (steps (0 ∷ 0 ∷ [])) (buffer 6) (Err ChoiceDoesNotWait) (buffer 6)
    ∷ settle_row sheet_f (steps (0 ∷ 1 ∷ 2 ∷ 3 ∷ [])) (buffer 6) (Err ChoiceHasNoList) (buffer 6)
    -- shorten: g, where nothing is struck; f, where joint 3 goes; i, where the ties go; d, none; c and g, where the choice is past phase one
    ∷ shorten_row sheet_g [] (buffer 28) (Ok (Some 8))
    (8 ∷ 0 ∷ entry 0 1 1 (entry 0 3 2 (entry 1 0 2 (entry 1 2 1 (entry 2 1 2 (entry 2 3 1 (entry 3 0 1 (entry 3 2 2 (buffer 2)))))))))
    ∷ shorten_row sheet_f [] (buffer 40) (Ok (Some 6))
    (6 ∷ 0 ∷ entry 0 1 1 (entry 0 2 2 (entry 1 0 2 (entry 1 2 1 (entry 2 0 1 (entry 2 1 2 (buffer 20)))))))
    ∷ shorten_row sheet_i [] (buffer 40) (Ok (Some 4)) (4 ∷ 0 ∷ entry 0 1 1 (entry 1 0 1 (entry 2 3 1 (entry 3 2 1 (buffer 26)))))
    ∷ shorten_row sheet_d [] (buffer 22) (Ok None) (buffer 22)
    ∷ shorten_row sheet_c (steps (0 ∷ 1 ∷ 0 ∷ [])) (buffer 10) (Err ChoiceLeftOver) (buffer 10)
    ∷ shorten_row sheet_g (steps (0 ∷ 1 ∷ 2 ∷ 3 ∷ 0 ∷ [])) (buffer 28) (Err ChoiceLeftOver) (buffer 28)
    -- the counts: d, two steps of two proposals each; f, a cut that ends in none; g, settle's and shorten's; beside 11, 12 and 13
    ∷ counts_row true sheet_d [] 0 4 0
    ∷ counts_row true sheet_f [] 0 3 1
    ∷ counts_row true sheet_g [] 0 4 1
    ∷ counts_row false sheet_g [] 0 4 0
    ∷ counts_row true sheet_g (steps (0 ∷ 0 ∷ [])) 11 1 0
    ∷ counts_row true sheet_f (steps (0 ∷ 1 ∷ 2 ∷ 3 ∷ [])) 12 3 0
    ∷ counts_row true sheet_d (steps (0 ∷ 1 ∷ 0 ∷ [])) 13 4 0
    ∷ counts_row true sheet_f (steps (0 ∷ 1 ∷ 2 ∷ 0 ∷ 0 ∷ [])) 13 3 1
    -- the rule. Phase one keeps the lowest joint: three proposals, where the longest list would make two. In phase two 4 is cut, the higher of the
    -- two longest lists, and 4 again, the highest of four; choosing it first changes nothing; a cut at 5, the highest joint of all, or at 1
    -- ends otherwise
    ∷ counts_row true sheet_three [] 0 3 0
    ∷ counts_row false sheet_three [] 0 3 0
    ∷ counts_row true sheet_three (steps (1 ∷ 2 ∷ [])) 0 2 0
    ∷ settle_row sheet_ring [] (buffer 8) (Ok (E.Paired 3)) (5 ∷ 2 ∷ 1 ∷ 4 ∷ 3 ∷ 0 ∷ 9 ∷ 9 ∷ [])
    ∷ counts_row true sheet_ring [] 0 6 2
    ∷ settle_row sheet_ring (steps (0 ∷ 1 ∷ 2 ∷ 3 ∷ 4 ∷ 5 ∷ 4 ∷ [])) (buffer 8) (Ok (E.Paired 3)) (5 ∷ 2 ∷ 1 ∷ 4 ∷ 3 ∷ 0 ∷ 9 ∷ 9 ∷ [])
    ∷ settle_row sheet_ring (steps (0 ∷ 1 ∷ 2 ∷ 3 ∷ 4 ∷ 5 ∷ 5 ∷ [])) (buffer 8) (Ok (E.Paired 3)) (1 ∷ 0 ∷ 3 ∷ 2 ∷ 5 ∷ 4 ∷ 9 ∷ 9 ∷ [])
    ∷ settle_row sheet_ring (steps (0 ∷ 1 ∷ 2 ∷ 3 ∷ 4 ∷ 5 ∷ 1 ∷ 0 ∷ [])) (buffer 8) (Ok (E.Paired 3)) (5 ∷ 4 ∷ 3 ∷ 2 ∷ 1 ∷ 0 ∷ 9 ∷ 9 ∷ [])
    -- marks. A return after the cut at 1 of row h, then one at 0: the other pairing, that of row h', and one cut. A mark set again later; a
    -- mark set since, which stays set; who stood is restored with the lists
    ∷ settle_row sheet_g (steps (0 ∷ 1 ∷ 2 ∷ 3 ∷ []) ++ mark 0 ++ step 1 ++ back 0 ++ step 0) (buffer 6) (Ok (E.Paired 2)) (3 ∷ 2 ∷ 1 ∷ 0 ∷ 9 ∷ 9 ∷ [])
    ∷ counts_row true sheet_g (steps (0 ∷ 1 ∷ 2 ∷ 3 ∷ []) ++ mark 0 ++ step 1 ++ back 0 ++ step 0) 0 4 1
    ∷ settle_row sheet_g (mark 0 ++ steps (0 ∷ 1 ∷ 2 ∷ 3 ∷ []) ++ mark 0 ++ step 1 ++ back 0 ++ step 0) (buffer 6) (Ok (E.Paired 2))
    (3 ∷ 2 ∷ 1 ∷ 0 ∷ 9 ∷ 9 ∷ [])
    ∷ counts_row true sheet_g (mark 0 ++ step 0 ++ mark 1 ++ back 0 ++ back 1 ++ step 0) 11 1 0
    ∷ settle_row sheet_g (mark 0 ++ step 0 ++ back 0 ++ step 0) (buffer 6) (Ok (E.Paired 2)) (1 ∷ 0 ∷ 3 ∷ 2 ∷ 9 ∷ 9 ∷ [])
    -- a return from a working that has ended, with a pairing or with none, and steps after it; the counts are of the steps standing
    ∷ settle_row sheet_c (mark 7 ++ steps (0 ∷ 1 ∷ []) ++ back 7 ++ steps (1 ∷ 0 ∷ [])) (buffer 4) (Ok (E.Paired 1)) (1 ∷ 0 ∷ 9 ∷ 9 ∷ [])
    ∷ counts_row true sheet_c (mark 7 ++ steps (0 ∷ 1 ∷ []) ++ back 7 ++ step 9) 11 0 0
    ∷ counts_row true sheet_f (steps (0 ∷ 1 ∷ 2 ∷ []) ++ mark 0 ++ step 0 ++ back 0 ++ step 1) 0 3 1
    ∷ shorten_row sheet_c (mark 0 ++ steps (0 ∷ 1 ∷ []) ++ back 0 ++ step 1) (buffer 10) (Ok (Some 2)) (2 ∷ 0 ∷ entry 0 1 1 (entry 1 0 1 (buffer 2)))
    -- after the end: a mark and a return may come, a step gets 13; a kind or a mark that is none is met before 13
    ∷ settle_row sheet_c (steps (0 ∷ 1 ∷ []) ++ mark 0 ++ back 0) (buffer 4) (Ok (E.Paired 1)) (1 ∷ 0 ∷ 9 ∷ 9 ∷ [])
    ∷ settle_row sheet_c (steps (0 ∷ 1 ∷ []) ++ mark 0 ++ step 0) (buffer 4) (Err ChoiceLeftOver) (buffer 4)
    ∷ settle_row sheet_c (steps (0 ∷ 1 ∷ []) ++ (3 ∷ 0 ∷ [])) (buffer 4) (Err BadRecord) (buffer 4)
    ∷ settle_row sheet_c (steps (0 ∷ 1 ∷ []) ++ mark 8) (buffer 4) (Err NoSuchMark) (buffer 4)
    -- 14: an odd number of bytes, before any record but after 9; a kind above 2, as met. 15: a mark above 7, a return to a mark not set
    ∷ settle_row sheet_c (step 9 ++ (0 ∷ [])) (buffer 4) (Err BadRecord) (buffer 4)
    ∷ settle_row sheet_c (step 9 ++ (0 ∷ [])) (buffer 1) (Err OutTooShort) (buffer 1)
    ∷ shorten_row sheet_c (0 ∷ []) (buffer 10) (Err BadRecord) (buffer 10)
    ∷ counts_row true sheet_c (step 0 ++ (0 ∷ [])) 14 0 0
    ∷ counts_row true sheet_c (step 0 ++ (3 ∷ 0 ∷ [])) 14 1 0
    ∷ counts_row true sheet_c (step 0 ++ mark 3 ++ back 4) 15 1 0
    ∷ shorten_row sheet_c (mark 3 ++ back 8) (buffer 10) (Err NoSuchMark) (buffer 10)
    -- the one-sided entry: nobody proposes by it, it is not written, and its pair is not offered and does not block; 9 still goes by it
    ∷ settle_row sheet_one_sided [] (buffer 5) (Ok (E.Paired 1)) (1 ∷ 0 ∷ 255 ∷ 9 ∷ 9 ∷ [])
    ∷ shorten_row sheet_one_sided [] (buffer 13) (Ok (Some 2)) (2 ∷ 0 ∷ entry 0 1 2 (entry 1 0 1 (buffer 5)))
    ∷ shorten_row sheet_one_sided [] (buffer 10) (Err OutTooShort) (buffer 10)
    ∷ counts_row true sheet_one_sided [] 0 2 0
    ∷ check_row sheet_one_sided (2 ∷ 255 ∷ 0 ∷ []) (Err NoPairingOffered)
    ∷ check_row sheet_one_sided (1 ∷ 0 ∷ 255 ∷ []) (Ok None)
    ∷ check_row sheet_one_sided (255 ∷ 255 ∷ 255 ∷ []) (Ok (Some 0))
    -- parents: row g is settled as without them, and no joint may have none; a parent equal to its joint, one that is higher, another count than n,
    -- before 9 and 10 and after 6; the section cut short, and bytes after it
    ∷ settle_row (sheet_g ++ (4 ∷ 255 ∷ 0 ∷ 255 ∷ 2 ∷ [])) [] (buffer 6) (Ok (E.Paired 2)) (1 ∷ 0 ∷ 3 ∷ 2 ∷ 9 ∷ 9 ∷ [])
    ∷ settle_row (sheet_a ++ (0 ∷ [])) [] (buffer 2) (Ok (E.Paired 0)) (buffer 2)
    ∷ settle_row (sheet_c ++ (2 ∷ 255 ∷ 1 ∷ [])) [] (buffer 1) (Err BadParents) (buffer 1)
    ∷ counts_row true (sheet_c ++ (2 ∷ 1 ∷ 255 ∷ [])) [] 18 0 0
    ∷ shorten_row (sheet_c ++ (1 ∷ 255 ∷ [])) (0 ∷ []) (buffer 7) (Err BadParents) (buffer 7)
    ∷ check_row (sheet_c ++ (3 ∷ 255 ∷ 0 ∷ 1 ∷ [])) [] (Err BadParents)
    ∷ check_row (2 ∷ letters 2 ++ (2 ∷ 0 ∷ entry 0 1 1 (entry 0 1 1 (1 ∷ 255 ∷ [])))) [] (Err EntryNotAfter)
    ∷ check_row (sheet_c ++ (2 ∷ 255 ∷ [])) [] (Err SheetCutShort)
    ∷ check_row (sheet_c ++ (2 ∷ 255 ∷ 0 ∷ 0 ∷ [])) [] (Err BytesAfterSheet)
    ∷ []
