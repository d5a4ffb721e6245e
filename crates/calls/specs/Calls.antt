-- What the calls settle, shorten and counts answer, and the buffer after them, for every input.
use Rattle.std.specs.Prelude.{Bool, List, [], ◌∷◌, Option, Some, None, Result, ℕ, zero, suc, ◌+◌, ◌*◌, ltb, length}
use Rattle.base.specs.Faults.{when, first_fault}
use Rattle.refusals.specs.declared.Refusal.{Refusal}
use Rattle.refusals.specs.Numbers.{refusal_of, answered}
use Rattle.sheet.specs.Format.{joints, rank_count}
use Rattle.sheet.specs.Refusals.{sheet_fault}
use Rattle.sheet.specs.Square.{square_of}
use Rattle.writing.specs.Written.{over}
use Rattle.roommates.specs.Lists.{Square}
use Rattle.roommates.specs.Moves.{Outcome}
use Rattle.roommates.specs.Left.{pairing_of, entry_count, list_bytes}
use Rattle.records.specs.Records.{worked_by, settles_by, shortens_by}
use Rattle.roommates.specs.declared.Stage.{Stage}
use Rattle.roommates.specs.declared.Stage.TheVariants.{Proposing, Cutting, NoneOne, NoneTwo, Paired}
use Rattle.matching.specs.Matchings.{pair_count}
use Rattle.calls.specs.declared.End.{End}
use Rattle.calls.specs.declared.Counts.{Counts}
use Rattle.calls.specs.declared.Phase.{Phase}
use Rattle.calls.specs.declared.Phase.TheVariants as P
use Rattle.calls.specs.declared.End.TheVariants as E

-- WHAT A CALL SAYS: its refusals in their order (0 for one that does not apply), the stage of its working, which is its verdict where
-- it has ended, the count beside a result, and the result's bytes.
pub record Says : Type 0 where
  pub faults : List ℕ
  pub verdict : Stage
  pub count : ℕ
  pub bytes : List ℕ

-- SETTLE, for n joints and a buffer of `room` bytes, by what became of its working: 9 where the buffer is shorter than n, then what is refused
-- of the choices. The result is the pairing where the working ended, and its count of pairs.
abbrev pub settle_of : ℕ → ℕ → Outcome → Says
settle_of n room o = record {
  faults = when (ltb room n) 9 ∷ (o.refusal ∷ []);
  verdict = o.work_is.stage;
  count = pair_count (pairing_of n o.work_is.lists);
  bytes = pairing_of n o.work_is.lists;
}

-- .. whose lists are t, with the choices cs
abbrev pub settle_says : ℕ → Square → List ℕ → ℕ → Says
settle_says n t cs room = settle_of n room (settles_by n t cs)

abbrev pub partners_of : ℕ → Square → List ℕ → List ℕ
partners_of n t cs = pairing_of n (settles_by n t cs).work_is.lists

-- SHORTEN, for n joints with m entries: 9 for a buffer shorter than 2 + 3 × m, then what is refused of the choices. The result is the lists where
-- phase one ended, and their count of entries.
abbrev pub shorten_of : ℕ → ℕ → ℕ → Outcome → Says
shorten_of n m room o = record {
  faults = when (ltb room (2 + 3 * m)) 9 ∷ (o.refusal ∷ []);
  verdict = o.work_is.stage;
  count = entry_count n o.work_is.lists;
  bytes = list_bytes n o.work_is.lists;
}

abbrev pub shorten_says : ℕ → ℕ → Square → List ℕ → ℕ → Says
shorten_says n m t cs room = shorten_of n m room (shortens_by n t cs)

abbrev pub left_of : ℕ → Square → List ℕ → Square
left_of n t cs = (shortens_by n t cs).work_is.lists

-- .. for a sheet, whose own refusals come first
abbrev pub on_sheet : List ℕ → Says → Says
on_sheet s c = record { faults = sheet_fault s ∷ c.faults; verdict = c.verdict; count = c.count; bytes = c.bytes }

abbrev pub settle_call : List ℕ → List ℕ → List ℕ → Says
settle_call s cs out = on_sheet s (settle_says (joints s) (square_of s) cs (length out))

abbrev pub shorten_call : List ℕ → List ℕ → List ℕ → Says
shorten_call s cs out = on_sheet s (shorten_says (joints s) (rank_count s) (square_of s) cs (length out))

-- a phase's number
abbrev pub phase_number : Phase → ℕ
phase_number P.One = 1
phase_number P.Two = 2

-- THE ANSWER: the first refusal, or by the verdict and the count. A working that was not refused has ended, so the answer to one
-- that goes on is never given.
abbrev pub ended_as : Stage → ℕ → End ℕ
ended_as Proposing count = E.None P.Two
ended_as Cutting count = E.None P.Two
ended_as NoneOne count = E.None P.One
ended_as NoneTwo count = E.None P.Two
ended_as Paired count = E.Paired count

abbrev pub settled_as : ℕ → Stage → ℕ → Result (End ℕ) Refusal
settled_as fault verdict count = answered fault (ended_as verdict count)

-- shorten's none is always in phase one
abbrev pub listed_as : Stage → ℕ → Option ℕ
listed_as Proposing count = None
listed_as Cutting count = None
listed_as NoneOne count = None
listed_as NoneTwo count = None
listed_as Paired count = Some count

abbrev pub shortened_as : ℕ → Stage → ℕ → Result (Option ℕ) Refusal
shortened_as fault verdict count = answered fault (listed_as verdict count)

abbrev pub settled_by : Says → Result (End ℕ) Refusal
settled_by c = settled_as (first_fault c.faults) c.verdict c.count

abbrev pub shortened_by : Says → Result (Option ℕ) Refusal
shortened_by c = shortened_as (first_fault c.faults) c.verdict c.count

-- THE BUFFER after the call: only a result is written
abbrev pub result_over : Stage → List ℕ → List ℕ → List ℕ
result_over Proposing bytes out = out
result_over Cutting bytes out = out
result_over NoneOne bytes out = out
result_over NoneTwo bytes out = out
result_over Paired bytes out = over bytes out

abbrev pub left_as : ℕ → Stage → List ℕ → List ℕ → List ℕ
left_as zero verdict bytes out = result_over verdict bytes out
left_as (suc k) verdict bytes out = out

abbrev pub left_by : Says → List ℕ → List ℕ
left_by c out = left_as (first_fault c.faults) c.verdict c.bytes out

-- the calls over a sheet: what they answer, and the buffer after them
abbrev pub settle_answer : List ℕ → List ℕ → List ℕ → Result (End ℕ) Refusal
settle_answer s cs out = settled_by (settle_call s cs out)

abbrev pub settle_bytes : List ℕ → List ℕ → List ℕ → List ℕ
settle_bytes s cs out = left_by (settle_call s cs out) out

abbrev pub shorten_answer : List ℕ → List ℕ → List ℕ → Result (Option ℕ) Refusal
shorten_answer s cs out = shortened_by (shorten_call s cs out)

abbrev pub shorten_bytes : List ℕ → List ℕ → List ℕ → List ℕ
shorten_bytes s cs out = left_by (shorten_call s cs out) out

-- COUNTS. The proposals and cuts of a working, beside its end or beside a refused record; 0 and 0 where a refusal comes before the first.
abbrev pub counts : ℕ → ℕ → ℕ → Counts
counts fault made cut = record { refusal = refusal_of fault; proposals = made; cuts = cut }

abbrev pub end_counts : Outcome → Counts
end_counts e = counts e.refusal e.work_is.proposals e.work_is.cuts

abbrev pub counts_as : ℕ → Outcome → Counts
counts_as zero e = end_counts e
counts_as (suc k) e = counts (suc k) 0 0

abbrev pub counts_of : Bool → List ℕ → List ℕ → Counts
counts_of whole s cs = counts_as (first_fault (sheet_fault s ∷ [])) (worked_by whole (joints s) (square_of s) cs)
