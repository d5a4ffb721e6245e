-- The entries of an accepted sheet that are left are what is written.
use mathlib.Core.Path.{◌≡◌, sym, ap, ◌∙◌}
use mathlib.Core.List.{List, ◌++◌}
use Prim.Native.Nat.{ℕ}
use native.Mathlib.Omega.{arith}
use lib.ListN.{length}
use borrow.Author.Tests.{lt-ltb}
use Rattle.base.proofs.Cases.{case, lt_ge}
use Rattle.base.proofs.Tests.{unlisted}
use Rattle.sections.specs.declared.Entry.{Entry}
use Rattle.sections.specs.Entries.{band_in}
use Rattle.sections.specs.Claims.{Sound, Each, Ascending}
use Rattle.square.specs.Mutual.{mutual_band}
use Rattle.square.proofs.Only.{only_each, only_ascends, only_same, only_none}
use Rattle.square.proofs.MutualSquare.{mutual_listed}
use Rattle.sheet.specs.Format.{joints, entries_of}
use Rattle.sheet.specs.Refusals.{sheet_fault}
use Rattle.sheet.specs.Square.{at, square_of}
use Rattle.sheet.proofs.PromiseKept.{accepted_entries, accepted_square, square_is_mutual}
use Rattle.roommates.specs.Lists.{Square}
use Rattle.roommates.specs.Left.{entries, entry_count, list_bytes}
use Rattle.roommates.proofs.EntriesWritten.{entries_length}
use Rattle.relisting.specs.Written.{PairsStruck, left, bytes_of, count_bytes}
use Rattle.relisting.specs.Claims.{WrittenEntries}
use Rattle.relisting.proofs.Strikes.{pairs_below}
use Rattle.relisting.proofs.ListedEntries.{entries_table, table_same, listed_bytes}
use Rattle.relisting.proofs.EntryBytes.{bytes_length}

-- entries of n joints in their order, with the lists u as their bands
pub record EntriesOn (n : ℕ) (u : Square) (es : List Entry) : Type 0 where
  pub each : Each (Sound n) es
  pub ascending : Ascending es
  pub bands : (a b : ℕ) → at u a b ≡ band_in es a b

pub left_on : (s : List ℕ) (u : Square) → sheet_fault s ≡ 0 → PairsStruck (square_of s) u → EntriesOn (joints s) u (left u (entries_of s))
left_on s u h r =
    let es : List Entry = entries_of s in
    let (each, ascending) = accepted_entries s h in
    let below = pairs_below (accepted_square s h) r in
    record {
      each = only_each _ (Sound (joints s)) es each;
      ascending = only_ascends _ es ascending;
      bands = λ a b.
          case (lt_ge 0 (at u a b))
          (λ l.
          let kept = below.kept a b l in
          let place = square_is_mutual s h a b in
          let own : mutual_band es a b ≡ band_in es a b = (mutual_listed es a b (omega arith)).0 in
          kept ∙ place ∙ own ∙ sym (only_same _ a b (lt-ltb 0 (at u a b) l) es))
          (λ g. let z : at u a b ≡ 0 = omega arith in z ∙ sym (only_none _ a b (unlisted (at u a b) z) es));
    }

-- their bytes, and how many they are
module _ {n : ℕ} {u : Square} {es : List Entry} (on : EntriesOn n u es) where
  on_bytes : entries n u ≡ bytes_of es
  on_bytes = entries_table n u ∙ table_same n _ _ on.bands ∙ listed_bytes n es on.each on.ascending

  pub on_count : entry_count n u ≡ length es
  on_count =
      let written = entries_length n u in
      let three = bytes_length es in
      let same = ap length on_bytes in
      omega arith

  pub on_written : list_bytes n u ≡ count_bytes (length es) ++ bytes_of es
  unfolding list_bytes
  on_written = rw (on_count, on_bytes)

pub written_entries : WrittenEntries
written_entries s u h r = on_written (left_on s u h r)
