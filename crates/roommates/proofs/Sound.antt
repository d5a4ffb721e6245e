-- What stays true of a square while pairs are struck from it.
use mathlib.Core.Path.{◌≡◌, refl, ◌∙◌}
use Prim.Native.Nat.{ℕ, ◌≤◌, ◌<◌}
use native.Mathlib.Omega.{arith}
use lib.ListN.{length}
use Rattle.sheet.specs.Square.{at, SquarePromise}
use Rattle.base.proofs.Cases.{case, lt_ge}
use Rattle.roommates.specs.Lists.{Square, row, struck}
use Rattle.roommates.proofs.Basics.{Below}
use Rattle.roommates.proofs.StrikesCompose.{was_there, below_refl, below_trans}
use Rattle.roommates.proofs.Strikes.{pair_back, struck_pair, struck_other, struck_rows, struck_row_length}

pub record Sound (n : ℕ) (t : Square) : Type 0 where
  pub few_joints : n ≤ 128
  pub rows : length t ≡ 128
  pub row_length : (a : ℕ) → a < 128 → length (row t a) ≡ 128
  pub inside : (a b : ℕ) → 0 < at t a b → (a < n) × (b < n)
  pub not_itself : (a : ℕ) → at t a a ≡ 0
  pub both : (a b : ℕ) → 0 < at t a b → 0 < at t b a

pub promise_sound : {n : ℕ} {t : Square} → SquarePromise n t → Sound n t
promise_sound s = record {
  few_joints = s.few_joints;
  rows = s.rows;
  row_length = s.row;
  inside = s.inside;
  not_itself = s.not_itself;
  both = s.mutual_listing;
}

-- u is t with some pairs struck
pub record Shrunk (t u : Square) : Type 0 where
  pub below : Below (at u) (at t)
  pub rows : length u ≡ length t
  pub row_length : (a : ℕ) → length (row u a) ≡ length (row t a)

pub shrunk_refl : {n : ℕ} {t : Square} → Sound n t → Shrunk t t
shrunk_refl s = record { below = below_refl s.both; rows = refl; row_length = λ a. refl }

pub shrunk_trans : {t u v : Square} → Shrunk t u → Shrunk u v → Shrunk t v
shrunk_trans r s = record {
  below = below_trans s.below r.below;
  rows = s.rows ∙ r.rows;
  row_length = λ a. s.row_length a ∙ r.row_length a;
}

pub shrunk_sound : {n : ℕ} {t u : Square} → Sound n t → Shrunk t u → Sound n u
shrunk_sound {n} {t} {u} s r = record {
  few_joints = s.few_joints;
  rows = r.rows ∙ s.rows;
  row_length = λ a h. r.row_length a ∙ s.row_length a h;
  inside = λ a b h. s.inside a b (was_there r.below a b h);
  not_itself = λ a.
      case (lt_ge 0 (at u a a))
      (λ h. r.below.kept a a h ∙ s.not_itself a)
      (λ h. omega arith);
  both = r.below.both;
}

pub shrunk_promise : {n : ℕ} {t u : Square} → SquarePromise n t → Shrunk t u → SquarePromise n u
shrunk_promise {n} {t} {u} p r =
    let s = shrunk_sound (promise_sound p) r in record {
      few_joints = s.few_joints;
      rows = s.rows;
      row = s.row_length;
      inside = s.inside;
      not_itself = s.not_itself;
      mutual_listing = s.both;
      small_band = λ a b.
          case (lt_ge 0 (at u a b))
          (λ h. rw (r.below.kept a b h) (p.small_band a b))
          (λ h. omega arith);
    }

-- a place that is not 0 after a strike is not of the struck pair
struck_same : (t : Square) (a b c d : ℕ) → 0 < at (struck t a b) c d → at (struck t a b) c d ≡ at t c d
struck_same t a b c d h =
    case (struck_other t a b c d)
    (λ o. let z : at (struck t a b) c d ≡ 0 = struck_pair t a b c d o in absurd (omega arith))
    (λ e. e)

pub struck_shrunk : {n : ℕ} {t : Square} → Sound n t → (a b : ℕ) → Shrunk t (struck t a b)
struck_shrunk {n} {t} s a b = record {
  below = record {
    kept = struck_same t a b;
    both = λ c d h.
        let e : at (struck t a b) c d ≡ at t c d = struck_same t a b c d h in
        let m : 0 < at t d c = s.both c d (omega arith) in
        case (struck_other t a b d c)
        (λ o. let z : at (struck t a b) c d ≡ 0 = struck_pair t a b c d (pair_back o) in absurd (omega arith))
        (λ f. omega arith);
  };
  rows = struck_rows t a b;
  row_length = struck_row_length t a b;
}
