-- What a caller knows by the answer of `read`.
use native.Mathlib.Omega.{arith}
use borrow.Author.Tests.{eq-eqb, ne_eqb}
use Rattle.std.proofs.Common.{◌≡◌, List, ℕ, inl, Ok, Err, refl, sym, ap}
use Rattle.base.proofs.Cases.{case, eq_ne}
use Rattle.base.proofs.Faults.{first_answered, none_answered}
use Rattle.refusals.specs.declared.Refusal.{Refusal}
use Rattle.refusals.specs.Numbers.{number_of, answered}
use Rattle.refusals.proofs.Numbers.{IsFault, number_some, answered_none, value_answered, refusal_answered, refused_as}
use Rattle.sheet.specs.declared.Parts.{Parts}
use Rattle.sheet.specs.declared.Sheet.{Sheet}
use Rattle.sheet.specs.Format.{joints, rank_count, labels_start, rank_start, rank_end}
use Rattle.sheet.specs.Square.{square_of}
use Rattle.sheet.specs.Refusals.{sheet_faults, sheet_fault, extents_fault}
use Rattle.sheet.specs.Claims.{RefusedFirst, AcceptedNone}
use Rattle.sheet.specs.Readings.{parts_of, reading_of, square_in, ReadsAs}
use Rattle.sheet.proofs.Numbers.{sheet_is_fault}
use Rattle.sheet.proofs.SheetLaws.{bad_extents}

-- the parts that a sheet with a fault f is accepted with
pub record ReadWith (s : List ℕ) (f : ℕ) (parts : Parts) : Type 0 where
  pub faultless : f ≡ 0
  pub parts_are : parts ≡ parts_of s
  pub n_joints : parts.joints ≡ joints s
  pub m_entries : parts.entries ≡ rank_count s
  pub labels_start_lem : parts.labels ≡ labels_start
  pub entries_start : parts.rankings ≡ rank_start s
  pub third_start : parts.parents ≡ rank_end s

pub read_with : (s : List ℕ) (f : ℕ) (parts : Parts) → IsFault f → answered f (parts_of s) ≡ Ok parts → ReadWith s f parts
read_with s f parts is h =
    let (clean, e) = value_answered (parts_of s) f parts is h in
    record {
      faultless = clean;
      parts_are = sym e;
      n_joints = sym (ap (λ (p : Parts). p.joints) e);
      m_entries = sym (ap (λ (p : Parts). p.entries) e);
      labels_start_lem = sym (ap (λ (p : Parts). p.labels) e);
      entries_start = sym (ap (λ (p : Parts). p.rankings) e);
      third_start = sym (ap (λ (p : Parts). p.parents) e);
    }

abbrev pub ReadAs : List ℕ → Parts → Type 0
ReadAs s parts = ReadWith s (sheet_fault s) parts

-- a fault of the extents is the sheet's
pub extents_is_fault : (s : List ℕ) → IsFault (extents_fault s)
extents_is_fault s =
    case (eq_ne (extents_fault s) 0) inl
    (λ ne. let e : sheet_fault s ≡ extents_fault s = bad_extents s _ refl ne in rw e at (sheet_is_fault s))

module _ (s : List ℕ) where
  pub read_as : (parts : Parts) → reading_of s ≡ Ok parts → ReadAs s parts
  read_as parts h = read_with s (sheet_fault s) parts (sheet_is_fault s) h

  pub reads : (read : Sheet) → ReadsAs s read → ReadAs s read.parts
  reads read h = read_as read.parts h.accepted

  -- the lent square
  module _ (old : List (List ℕ)) where
    pub square_filled : sheet_fault s ≡ 0 → square_in s old ≡ square_of s
    unfolding square_in
    square_filled h = rw (eq-eqb _ _ h)

    pub square_kept : (r : Refusal) → number_of r ≡ sheet_fault s → square_in s old ≡ old
    unfolding square_in
    square_kept r h = rw (ne_eqb (sheet_fault s) 0 (λ z. omega (arith, h, z, number_some r)))

  pub read_refused : (r : Refusal) → reading_of s ≡ Err r → number_of r ≡ sheet_fault s
  read_refused r h = refusal_answered (parts_of s) (sheet_fault s) r h

pub refused_first : RefusedFirst
unfolding sheet_fault
refused_first s k =
    let told = refused_as (parts_of s) (sheet_fault s) (sheet_is_fault s) k in
    let first = first_answered (sheet_faults s) k in
    (λ h. first.0 (told.0 h), λ f. told.1 (first.1 f))

pub accepted_none : AcceptedNone
unfolding sheet_fault
accepted_none s = (
  λ h. (none_answered (sheet_faults s)).0 (read_as s (parts_of s) h).faultless,
  λ f. sym (answered_none (parts_of s) (sheet_fault s) ((none_answered (sheet_faults s)).1 f)),
)
