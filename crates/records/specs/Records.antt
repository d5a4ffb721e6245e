-- Choices are records of two bytes, a kind and a number: kind 0 chooses a joint, 1 sets mark 0 to 7, 2 returns to a mark.
use Rattle.std.specs.Prelude.{Bool, true, false, not, cond, List, [], ◌∷◌, ℕ, zero, suc, ◌%◌, eqb, ltb, length}
use Rattle.roommates.specs.Lists.{Square}
use Rattle.roommates.specs.PhaseOne.{Work}
use Rattle.roommates.specs.Moves.{begun, Outcome, outcome, move, carried_out}
use Rattle.records.specs.declared.Record.{Record}

-- a record of kind k with the number x; the records of bytes, two by two
abbrev pub record_of : ℕ → ℕ → Record
record_of k x = record { kind = k; number = x }

unfoldable pub records_of : List ℕ → List Record
records_of [] = []
records_of (k ∷ []) = []
records_of (k ∷ (x ∷ bytes)) = record_of k x ∷ records_of bytes

-- A MARK is not set, or has saved a working. A working stands beside its marks.
pub data Mark : Type 0 where
  unset : Mark
  saved : Work → Mark

pub record Marked : Type 0 where
  pub working : Work
  pub marks : ℕ → Mark

abbrev pub marked : Work → (ℕ → Mark) → Marked
marked w marks = record { working = w; marks = marks }

-- no mark is set; mark m saves w, and what it had saved before is replaced
abbrev pub unmarked : ℕ → Mark
unmarked i = unset

abbrev pub with_mark : ℕ → Work → (ℕ → Mark) → ℕ → Mark
with_mark m w marks i = cond (eqb i m) (saved w) (marks i)

-- What becomes of both: the refusal of a record (0 for none), and how they then stand.
pub record Acted : Type 0 where
  pub refusal : ℕ
  pub stands : Marked

abbrev pub acted : ℕ → Marked → Acted
acted k s = record { refusal = k; stands = s }

-- KIND 0 chooses a joint: 11, 12 or 13, or the working moves.
unfoldable pub stepped : Bool → ℕ → Marked → ℕ → Acted
stepped whole n s x =
    let o = move whole n s.working x in
    acted o.refusal (marked o.work_is s.marks)

-- KIND 1 sets mark m, also when the working has ended. 15: a mark above 7.
unfoldable pub mark_set : Marked → ℕ → Acted
mark_set s m = cond (ltb m 8) (acted 0 (marked s.working (with_mark m s.working s.marks))) (acted 15 s)

-- KIND 2 restores the working as it was when mark m was last set, and changes no mark. 15: a mark above 7, or one not set.
abbrev pub restored : Marked → Mark → Acted
restored s unset = acted 15 s
restored s (saved w) = acted 0 (marked w s.marks)

unfoldable pub returned_to : Marked → ℕ → Acted
returned_to s m = cond (ltb m 8) (restored s (s.marks m)) (acted 15 s)

-- ONE RECORD, by its kind. 14: a kind above 2.
abbrev pub acts_in : ℕ → Bool → ℕ → Marked → ℕ → Acted
acts_in zero whole n s x = stepped whole n s x
acts_in (suc zero) whole n s x = mark_set s x
acts_in (suc (suc zero)) whole n s x = returned_to s x
acts_in (suc (suc (suc k))) whole n s x = acted 14 s

unfoldable pub acts : Bool → ℕ → Marked → Record → Acted
acts whole n s r = acts_in r.kind whole n s r.number

-- THE RECORDS, each of which acts on the working and the marks that the one before left; a refusal ends it.
unfoldable pub follows : Bool → ℕ → Marked → List Record → Outcome
follows whole n s [] = outcome 0 s.working
follows whole n s (r ∷ rs) =
    let a = acts whole n s r in
    cond (eqb a.refusal 0) (follows whole n a.stands rs) (outcome a.refusal a.stands.working)

-- a working that begins, with no mark set
abbrev pub started : Bool → ℕ → Square → Marked
started whole n t = marked (begun whole n t) unmarked

-- A WHOLE WORKING, settle's (`whole`) or shorten's, by the bytes of its records: what they leave, carried to its end by the rule. 14: an odd
-- number of bytes, before any record.
abbrev pub is_odd : ℕ → Bool
is_odd k = not (eqb (k % 2) 0)

unfoldable pub worked_by : Bool → ℕ → Square → List ℕ → Outcome
worked_by whole n t bytes =
    cond (is_odd (length bytes)) (outcome 14 (begun whole n t)) (carried_out whole n (follows whole n (started whole n t) (records_of bytes)))

abbrev pub settles_by : ℕ → Square → List ℕ → Outcome
settles_by n t bytes = worked_by true n t bytes

abbrev pub shortens_by : ℕ → Square → List ℕ → Outcome
shortens_by n t bytes = worked_by false n t bytes
