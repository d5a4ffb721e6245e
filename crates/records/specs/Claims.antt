-- What holds of workings that records steer.
use Rattle.std.specs.Prelude.{◌≡◌, Bool, true, false, ◌⊎◌, ◌≢◌, ◌↔◌, List, [], ◌∷◌, ◌++◌, ℕ, ◌≤◌, length}
use Rattle.sheet.specs.Format.{joints}
use Rattle.sheet.specs.Refusals.{sheet_fault}
use Rattle.sheet.specs.Square.{SquarePromise, square_of}
use Rattle.roommates.specs.declared.Stage.TheVariants.{Proposing, Cutting}
use Rattle.roommates.specs.Lists.{Square}
use Rattle.roommates.specs.PhaseOne.{Work}
use Rattle.roommates.specs.Moves.{begun, outcome, moves, worked}
use Rattle.roommates.specs.Claims.{stage_of, Settled, Unfit}
use Rattle.records.specs.declared.Record.{Record}
use Rattle.records.specs.Records.{record_of, records_of, follows, started, is_odd, worked_by, settles_by, shortens_by}
use Rattle.records.specs.Standing.{is_set_by, standing, step_bytes}

-- WHICH STEPS STAND, in the request's words. A step follows those that stand, a mark changes none, and after a return those stand that stood at the
-- last setting of its mark.
pub record StandingSaid : Type 0 where
  pub at_first : standing [] ≡ []
  pub after_step : (rs : List Record) (x : ℕ) → standing (rs ++ (record_of 0 x ∷ [])) ≡ standing rs ++ (x ∷ [])
  pub after_mark : (rs : List Record) (m : ℕ) → standing (rs ++ (record_of 1 m ∷ [])) ≡ standing rs
  pub after_return : (earlier later : List Record) (m : ℕ) → is_set_by later m ≡ false
      → standing (earlier ++ (record_of 1 m ∷ (later ++ (record_of 2 m ∷ [])))) ≡ standing earlier

-- THE STEPS STANDING. After any records, refused ones among them, the working equals a fresh one after the steps standing, in order. Those are
-- of the records before the first refused one; of all where none is. Both counts are the working's own, so they are of those steps.
pub record Replayed (whole : Bool) (n : ℕ) (t : Square) (rs : List Record) : Type 0 where
  pub followed : List Record
  pub later : List Record
  pub split : rs ≡ followed ++ later
  pub all_followed : (follows whole n (started whole n t) rs).refusal ≡ 0 → later ≡ []
  pub within : (follows whole n (started whole n t) followed).refusal ≡ 0
  pub replayed : moves whole n (begun whole n t) (standing followed) ≡ outcome 0 (follows whole n (started whole n t) rs).work_is

abbrev pub RecordsReplayed : Type 0
RecordsReplayed = (whole : Bool) (n : ℕ) (t : Square) (rs : List Record) → Replayed whole n t rs

-- Where nothing is refused the whole working is that of the steps standing.
abbrev pub BytesReplayed : Type 0
BytesReplayed = (whole : Bool) (n : ℕ) (t : Square) (bytes : List ℕ) → (worked_by whole n t bytes).refusal ≡ 0
    → worked_by whole n t bytes ≡ worked whole n t (standing (records_of bytes))

-- Steps alone stand as they are: choices of joints, refused ones too, are what they were before there were marks.
abbrev pub StepsReplayed : Type 0
StepsReplayed = (whole : Bool) (n : ℕ) (t : Square) (cs : List ℕ) → worked_by whole n t (step_bytes cs) ≡ worked whole n t cs

-- THE DEMANDS, word for word, for every list of bytes; its records are within the rules where nothing is refused.
abbrev pub RecordDemands : Type 0
RecordDemands = (s : List ℕ) → sheet_fault s ≡ 0 → Settled (joints s) (square_of s) (settles_by (joints s) (square_of s)) (shortens_by (joints s) (square_of s))

-- THE REFUSALS OF RECORDS. Why r may not come next, where the working is w and these marks are set, with the number that says so.
pub data UnfitRecord (n : ℕ) (w : Work) (is_set : ℕ → Bool) (r : Record) : ℕ → Type 0 where
  unfit_step : {k : ℕ} → r.kind ≡ 0 → Unfit n w r.number k → UnfitRecord n w is_set r k
  -- a kind above 2
  no_kind : 3 ≤ r.kind → UnfitRecord n w is_set r 14
  -- a mark above 7, set or returned to
  no_mark : (r.kind ≡ 1) ⊎ (r.kind ≡ 2) → 8 ≤ r.number → UnfitRecord n w is_set r 15
  -- a return to a mark that is not set
  not_set : r.kind ≡ 2 → is_set r.number ≡ false → UnfitRecord n w is_set r 15

-- Some record may not come next, for the reason that k says, after earlier ones that were within the rules: their steps standing take a
-- fresh working to `there`, and the marks set are those that one of them sets.
pub record RecordRefused (whole : Bool) (n : ℕ) (t : Square) (rs : List Record) (k : ℕ) : Type 0 where
  pub earlier : List Record
  pub met : Record
  pub later : List Record
  pub split : rs ≡ earlier ++ (met ∷ later)
  pub within : (follows whole n (started whole n t) earlier).refusal ≡ 0
  pub there : Work
  pub stands : moves whole n (begun whole n t) (standing earlier) ≡ outcome 0 there
  pub unfit : UnfitRecord n there (is_set_by earlier) met k

-- 14 for an odd number of bytes comes before any record
pub data BytesRefused (whole : Bool) (n : ℕ) (t : Square) (bytes : List ℕ) : ℕ → Type 0 where
  odd_bytes : is_odd (length bytes) ≡ true → BytesRefused whole n t bytes 14
  by_record : {k : ℕ} → is_odd (length bytes) ≡ false → RecordRefused whole n t (records_of bytes) k → BytesRefused whole n t bytes k

-- refused by the number of a step, by 14 or by 15
abbrev pub StoppedBy : ℕ → ℕ → Type 0
StoppedBy step k = (k ≡ step) ⊎ ((k ≡ 14) ⊎ (k ≡ 15))

-- For every list of bytes, settle's and shorten's; k is not 0.
pub record RecordsRefused (whole : Bool) (n : ℕ) (t : Square) (bytes : List ℕ) : Type 0 where
  pub refused_by : (k : ℕ) → k ≢ 0 → ((worked_by whole n t bytes).refusal ≡ k) ↔ BytesRefused whole n t bytes k
  -- the working beside a refused record is that of the steps then standing
  pub left_there : {k : ℕ} → is_odd (length bytes) ≡ false → (r : RecordRefused whole n t (records_of bytes) k) → worked_by whole n t bytes ≡ outcome k r.there
  -- before the first record nothing has been done
  pub left_begun : is_odd (length bytes) ≡ true → worked_by whole n t bytes ≡ outcome 14 (begun whole n t)
  -- it stops short of an end only where a step of that phase was refused, or a record for its form
  pub stops_at : SquarePromise n t → (stage_of (worked_by whole n t bytes) ≡ Proposing → StoppedBy 11 (worked_by whole n t bytes).refusal)
      × (stage_of (worked_by whole n t bytes) ≡ Cutting → StoppedBy 12 (worked_by whole n t bytes).refusal)
  -- left off after any record: a beginning of records within the rules is within them
  pub beginning : (later : List ℕ) → is_odd (length bytes) ≡ false → (worked_by whole n t (bytes ++ later)).refusal ≡ 0 → (worked_by whole n t bytes).refusal ≡ 0

abbrev pub RecordRefusals : Type 0
RecordRefusals = (whole : Bool) (n : ℕ) (t : Square) (bytes : List ℕ) → RecordsRefused whole n t bytes
