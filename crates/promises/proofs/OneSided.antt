-- One-sided entries count as unlisted everywhere.
use mathlib.Core.Path.{◌≡◌, refl, sym, ◌∙◌}
use mathlib.Core.List.{List}
use mathlib.Core.Logic.{◌⊎◌, ◌≢◌}
use Prim.Native.Nat.{ℕ, ◌≤◌, ◌<◌}
use native.Mathlib.Omega.{arith}
use Rattle.base.proofs.Cases.{case}
use Rattle.sections.specs.Entries.{band_in}
use Rattle.square.proofs.MutualSquare.{mutual_listed}
use Rattle.sheet.specs.Format.{joints, rank_count, entries_of, third}
use Rattle.sheet.specs.Refusals.{sheet_fault}
use Rattle.sheet.specs.Square.{at, square_of}
use Rattle.sheet.proofs.PromiseKept.{square_is_mutual}
use Rattle.matching.specs.Matchings.{partner, pair_number}
use Rattle.refusals.specs.Numbers.{RefusedAs}
use Rattle.std.proofs.Common.{Some, Ok}
use Rattle.roommates.specs.Lists.{Square}
use Rattle.roommates.proofs.EntriesListed.{all_listed, pairs_half}
use Rattle.relisting.specs.Written.{without}
use Rattle.relisting.specs.Claims.{SheetWith}
use Rattle.relisting.proofs.Rereading.{without_same}
use Rattle.offered.specs.Checks.{check_of}
use Rattle.promises.specs.Claims.{Unlisted}
use Rattle.promises.proofs.Alike.{same_answers, shorten_roomy}
use Rattle.promises.proofs.CheckKeeps.{check_keeps}

module _ (s : List ℕ) (f : sheet_fault s ≡ 0) where
  abbrev n : ℕ
  n = joints s

  abbrev t : Square
  t = square_of s

  other : SheetWith s t (third s) (without s)
  other = (without_same s f).0

  -- no more entries than before
  fewer : rank_count (without s) ≤ rank_count s
  fewer = let count = other.count_left in let all = all_listed s f in let half = pairs_half s f in omega arith

  -- an entry on the square is returned
  each_lists : (a b : ℕ) → 0 < at t a b → (0 < band_in (entries_of s) a b) × (0 < band_in (entries_of s) b a)
  each_lists a b l =
      let place = square_is_mutual s f a b in
      let own = mutual_listed (entries_of s) a b (omega arith) in
      (omega (arith, own.0), own.1)

  offered_ten : (m : List ℕ) (a : ℕ) → a < n → partner m a ≢ 255
      → (band_in (entries_of s) a (partner m a) ≡ 0) ⊎ (band_in (entries_of s) (partner m a) a ≡ 0) → RefusedAs (check_of s m) 10
  offered_ten m a l paired missing =
      (check_keeps s m).check_ten.1 (
        f,
        λ h.
            case (h.1.placed a l) paired
            (λ p. let both = each_lists a (partner m a) p.listed in case missing (λ z. omega arith) (λ z. omega arith)),
      )

  blocked_both : (m : List ℕ) (k : ℕ) → check_of s m ≡ Ok (Some k)
      → (a : ℕ) × (b : ℕ) × (k ≡ pair_number a b) × (0 < band_in (entries_of s) a b) × (0 < band_in (entries_of s) b a)
  blocked_both m k h =
      let low = (((check_keeps s m).check_blocked k).0 h).2 in
      let both = each_lists low.lower low.higher low.blocking.lists in
      (low.lower, low.higher, low.numbered, both.0, both.1)

pub unlisted : Unlisted
unlisted s f =
    let r = other s f in
    let g : sheet_fault (without s) ≡ 0 = r.accepted in
    record {
      alike = same_answers s (without s) f g r.same_joints r.same_square;
      shorten_alike = λ cs out fits.
          let few = fewer s f in
          let a = shorten_roomy s (joints s) (square_of s) f refl refl cs out fits in
          let b = shorten_roomy (without s) (joints s) (square_of s) g r.same_square r.same_joints cs out (omega arith) in
          (a.0 ∙ sym b.0, a.1 ∙ sym b.1);
      offered_ten = offered_ten s f;
      blocked_both = blocked_both s f;
    }
