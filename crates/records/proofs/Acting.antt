-- What one record does, or why it may not come next.
use mathlib.Core.Path.{◌≡◌, refl, ◌∙◌, ap}
use mathlib.Core.Bool.{Bool, true, false, true≢false}
use mathlib.Core.Logic.{inl, inr}
use Prim.Native.Nat.{ℕ, zero, suc, ◌≤◌, ◌<◌}
use native.Mathlib.Omega.{arith}
use borrow.Author.Tests.{lt-ltb, le-ltb}
use Rattle.base.proofs.Cases.{case, lt_ge}
use Rattle.roommates.specs.PhaseOne.{Work}
use Rattle.roommates.specs.Moves.{outcome, move}
use Rattle.roommates.proofs.ChoicesRefused.{Tried, fit_step, fit_cut, unfit, tried, unfit_move, unfit_number}
use Rattle.records.specs.declared.Record.{Record}
use Rattle.records.specs.Records.{record_of, Mark, unset, saved, Marked, marked, with_mark, acted, stepped, mark_set, restored, returned_to, acts_in, acts}
use Rattle.records.specs.Claims.{UnfitRecord, unfit_step, no_kind, no_mark, not_set}

-- is a mark set?
abbrev pub is_saved : Mark → Bool
is_saved unset = false
is_saved (saved w) = true

abbrev pub is_set_in : Marked → ℕ → Bool
is_set_in s m = is_saved (s.marks m)

-- the numbers of refused records
pub unfit_record_number : {n : ℕ} {w : Work} {set : ℕ → Bool} {r : Record} {k : ℕ} → UnfitRecord n w set r k → (11 ≤ k) × (k ≤ 15)
unfit_record_number (unfit_step e u) = let few = unfit_number u in (few.0, omega (arith, few.1))
unfit_record_number (no_kind l) = (omega arith, omega arith)
unfit_record_number (no_mark e l) = (omega arith, omega arith)
unfit_record_number (not_set e h) = (omega arith, omega arith)

-- a mark that is one, or is none: set, and returned to
module _ (s : Marked) (m : ℕ) where
  pub mark_is : m < 8 → mark_set s m ≡ acted 0 (marked s.working (with_mark m s.working s.marks))
  unfolding mark_set
  mark_is l = rw (lt-ltb m 8 l) refl

  pub no_mark_is : 8 ≤ m → mark_set s m ≡ acted 15 s
  unfolding mark_set
  no_mark_is l = rw (le-ltb m 8 l) refl

  pub return_is : {a : Mark} → m < 8 → s.marks m ≡ a → returned_to s m ≡ restored s a
  unfolding returned_to
  return_is l e = rw (lt-ltb m 8 l) (ap (restored s) e)

  pub no_return_is : 8 ≤ m → returned_to s m ≡ acted 15 s
  unfolding returned_to
  no_return_is l = rw (le-ltb m 8 l) refl

module _ (whole : Bool) (n : ℕ) where
  pub step_is : (s : Marked) (x : ℕ) {k : ℕ} {v : Work} → move whole n s.working x ≡ outcome k v → stepped whole n s x ≡ acted k (marked v s.marks)
  unfolding stepped
  step_is s x e = rw e refl

  -- A RECORD, by its kind
  module _ (s : Marked) (r : Record) where
    pub kind_step : r.kind ≡ 0 → acts whole n s r ≡ stepped whole n s r.number
    unfolding acts
    kind_step e = rw e

    pub kind_mark : r.kind ≡ 1 → acts whole n s r ≡ mark_set s r.number
    unfolding acts
    kind_mark e = rw e

    pub kind_return : r.kind ≡ 2 → acts whole n s r ≡ returned_to s r.number
    unfolding acts
    kind_return e = rw e

    pub kind_other : 3 ≤ r.kind → acts whole n s r ≡ acted 14 s
    unfolding acts
    kind_other l = go r.kind l
      where
        go : (k : ℕ) → 3 ≤ k → acts_in k whole n s r.number ≡ acted 14 s
        go zero l = absurd (omega arith)
        go (suc zero) l = absurd (omega arith)
        go (suc (suc zero)) l = absurd (omega arith)
        go (suc (suc (suc k))) l = refl

  pub data Does (s : Marked) (r : Record) : Type 0 where
    does_step : {v : Work} → r.kind ≡ 0 → move whole n s.working r.number ≡ outcome 0 v
        → acts whole n s r ≡ acted 0 (marked v s.marks) → Does s r
    does_mark : r.kind ≡ 1 → acts whole n s r ≡ acted 0 (marked s.working (with_mark r.number s.working s.marks)) → Does s r
    does_return : {w : Work} → r.kind ≡ 2 → s.marks r.number ≡ saved w → acts whole n s r ≡ acted 0 (marked w s.marks) → Does s r
    does_nothing : {k : ℕ} → UnfitRecord n s.working (is_set_in s) r k → acts whole n s r ≡ acted k s → Does s r

  does_kind : (s : Marked) (k x : ℕ) → Does s (record_of k x)
  does_kind s zero x = by_choice (tried whole n s.working x)
    where
      is : {k : ℕ} {v : Work} → move whole n s.working x ≡ outcome k v → acts whole n s (record_of 0 x) ≡ acted k (marked v s.marks)
      is m = kind_step s (record_of 0 x) refl ∙ step_is s x m

      by_choice : Tried whole n s.working x → Does s (record_of 0 x)
      by_choice (fit_step h l e m) = does_step refl m (is m)
      by_choice (fit_cut h l e m) = does_step refl m (is m)
      by_choice (unfit k d u m) = does_nothing (unfit_step refl u) (is m)
  does_kind s (suc zero) m =
      let is = kind_mark s (record_of 1 m) refl in
      case (lt_ge m 8) (λ l. does_mark refl (is ∙ mark_is s m l)) (λ l. does_nothing (no_mark (inl refl) l) (is ∙ no_mark_is s m l))
  does_kind s (suc (suc zero)) m =
      case (lt_ge m 8) (λ l. by_mark (s.marks m) refl l) (λ l. does_nothing (no_mark (inr refl) l) (is ∙ no_return_is s m l))
    where
      is : acts whole n s (record_of 2 m) ≡ returned_to s m
      is = kind_return s (record_of 2 m) refl

      by_mark : (a : Mark) → s.marks m ≡ a → m < 8 → Does s (record_of 2 m)
      by_mark unset e l = does_nothing (not_set refl (ap is_saved e)) (is ∙ return_is s m l e)
      by_mark (saved w) e l = does_return refl e (is ∙ return_is s m l e)
  does_kind s (suc (suc (suc k))) x = does_nothing (no_kind (omega arith)) (kind_other s (record_of (suc (suc (suc k))) x) (omega arith))

  pub does : (s : Marked) (r : Record) → Does s r
  does s r = does_kind s r.kind r.number

  -- A record that may not come is refused with its number, and leaves all as it was.
  pub unfit_acts : {s : Marked} {r : Record} {k : ℕ} → UnfitRecord n s.working (is_set_in s) r k → acts whole n s r ≡ acted k s
  unfit_acts {s} {r} (unfit_step e u) = kind_step s r e ∙ step_is s r.number (unfit_move whole n u)
  unfit_acts {s} {r} (no_kind l) = kind_other s r l
  unfit_acts {s} {r} (no_mark e l) =
      case e (λ e. kind_mark s r e ∙ no_mark_is s r.number l) (λ e. kind_return s r e ∙ no_return_is s r.number l)
  unfit_acts {s} {r} (not_set e h) =
      kind_return s r e ∙ case (lt_ge r.number 8) (λ l. by_mark (s.marks r.number) refl h l) (λ l. no_return_is s r.number l)
    where
      by_mark : (a : Mark) → s.marks r.number ≡ a → is_saved a ≡ false → r.number < 8 → returned_to s r.number ≡ acted 15 s
      by_mark unset e h l = return_is s r.number l e
      by_mark (saved w) e h l = absurd (true≢false h)
