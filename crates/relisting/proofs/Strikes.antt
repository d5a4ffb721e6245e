-- Lists that have shrunk are lists with pairs struck; so are those of shorten's workings.
use mathlib.Core.Path.{◌≡◌, ◌∙◌}
use mathlib.Core.Logic.{inl, inr}
use Prim.Native.Nat.{ℕ, ◌<◌}
use native.Mathlib.Omega.{arith}
use Rattle.base.proofs.Cases.{case, lt_ge}
use Rattle.sheet.specs.Square.{at, SquarePromise}
use Rattle.sheet.proofs.PromiseKept.{accepted_square}
use Rattle.roommates.specs.Lists.{Square}
use Rattle.roommates.proofs.Basics.{Below}
use Rattle.roommates.proofs.Sound.{Shrunk, promise_sound}
use Rattle.roommates.proofs.WorkingsEnd.{arrived_shrunk}
use Rattle.relisting.specs.Written.{PairsStruck}
use Rattle.relisting.specs.Claims.{ShortenStrikes}

pub shrunk_pairs : {n : ℕ} {t u : Square} → SquarePromise n t → Shrunk t u → PairsStruck t u
shrunk_pairs {n} {t} {u} p r = record {
  rows = r.rows ∙ p.rows;
  row_length = λ a l. r.row_length a ∙ p.row a l;
  places = λ a b.
      case (lt_ge 0 (at u a b))
      (λ h. inl (r.below.kept a b h))
      (λ z. case (lt_ge 0 (at u b a))
      (λ h. let both = r.below.both b a h in absurd (omega arith))
      (λ y. inr (omega arith, omega arith)));
}

-- and the other way: what is left was there, and so is its return
pub pairs_below : {n : ℕ} {t u : Square} → SquarePromise n t → PairsStruck t u → Below (at u) (at t)
pairs_below {n} {t} {u} p r = record { kept = kept; both = both }
  where
    kept : (a b : ℕ) → 0 < at u a b → at u a b ≡ at t a b
    kept a b h = case (r.places a b) (λ e. e) (λ z. absurd (omega arith))

    both : (a b : ℕ) → 0 < at u a b → 0 < at u b a
    both a b h =
        let e = kept a b h in
        let back : 0 < at t b a = p.mutual_listing a b (omega arith) in
        case (r.places b a) (λ e. omega arith) (λ z. absurd (omega arith))

pub shorten_strikes : ShortenStrikes
shorten_strikes s w h a = let p = accepted_square s h in shrunk_pairs p (arrived_shrunk (promise_sound p) a)
