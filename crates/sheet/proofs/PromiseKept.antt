-- What an accepted sheet promises of its entries, its mutual listings and its square.
use mathlib.Core.Path.{◌≡◌, refl, ◌∙◌}
use mathlib.Core.List.{List}
use Prim.Native.Nat.{ℕ, ◌<◌}
use native.Mathlib.Omega.{arith}
use borrow.Author.Tests.{lt-ltb}
use Rattle.base.proofs.Cases.{case, lt_ge}
use Rattle.sections.specs.declared.Entry.{Entry}
use Rattle.sections.specs.Entries.{entries_from, band_in, entries_fault}
use Rattle.sections.specs.Claims.{Sound, Each, Ascending}
use Rattle.sections.proofs.EntryFaults.{entry_sound, ascend}
use Rattle.sections.proofs.EntryList.{length_entries, entry_at}
use Rattle.square.specs.Mutual.{returned, mutual_entries, mutual_band}
use Rattle.square.proofs.Only.{only_each, only_ascends, only_band}
use Rattle.square.proofs.MutualSquare.{mutual_both, mutual_most, mutual_places, mutual_promise}
use Rattle.sheet.specs.Format.{joints, rank_count, rankings_part, entries_of}
use Rattle.sheet.specs.Claims.{AcceptedEntries, AcceptedPromise, AcceptedSquare, SquareIsMutual, SquareIsEntries}
use Rattle.sheet.proofs.Accepted.{accepted}

-- entries without a fault, as a list
module _ (m n : ℕ) (part : List ℕ) (clean : entries_fault m n part ≡ 0) where
  pub sound_entries : Each (Sound n) (entries_from m 0 part)
  sound_entries j l =
      let k : j < m = rw (length_entries m 0 part) at l in rw (entry_at m part j k) (entry_sound m n part clean j k)

  ascending_entries : Ascending (entries_from m 0 part)
  ascending_entries i j l lj =
      let k : j < m = rw (length_entries m 0 part) at lj in
      let ki : i < m = omega arith in
      rw (entry_at m part i ki, entry_at m part j k) (ascend m n part clean i j l k)

pub accepted_entries : AcceptedEntries
accepted_entries s h =
    let clean = (accepted s h).faultless in
    (sound_entries (rank_count s) (joints s) (rankings_part s) clean, ascending_entries (rank_count s) (joints s) (rankings_part s) clean)

pub accepted_promise : AcceptedPromise
accepted_promise s h =
    let es : List Entry = entries_of s in
    let (each, ascending) = accepted_entries s h in
    let bands : (a b : ℕ) → band_in (mutual_entries es) a b ≡ mutual_band es a b = λ a b. only_band (returned es) a b es in
    record {
      few_joints = (accepted s h).few_joints;
      each = only_each (returned es) (Sound (joints s)) es each;
      ascending = only_ascends (returned es) es ascending;
      mutual_listing = λ a b l. rw (bands b a) (mutual_both es a b (rw (bands a b) at l));
    }

pub accepted_square : AcceptedSquare
accepted_square s h = mutual_promise (joints s) (entries_of s) (accepted s h).few_joints (accepted_entries s h).0

pub square_is_mutual : SquareIsMutual
square_is_mutual s h = mutual_places (joints s) (entries_of s) (accepted s h).few_joints (accepted_entries s h).0

-- a listing that is returned, or none, stands as it is
all_mutual : (es : List Entry) (a b : ℕ) → (0 < band_in es a b → 0 < band_in es b a) → mutual_band es a b ≡ band_in es a b
all_mutual es a b both =
    case (lt_ge 0 (band_in es a b))
    (λ l. rw (lt-ltb 0 (band_in es b a) (both l)) refl)
    (λ g. let z : band_in es a b ≡ 0 = omega arith in omega (arith, mutual_most es a b))

pub square_is_entries : SquareIsEntries
square_is_entries s h both a b = square_is_mutual s h a b ∙ all_mutual (entries_of s) a b (both a b)
