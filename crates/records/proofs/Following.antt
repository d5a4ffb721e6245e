-- Records one after another: all are followed, or there is a first that may not come.
use mathlib.Core.Path.{◌≡◌, refl, sym, ◌∙◌, ap}
use mathlib.Core.Bool.{Bool, true, false, ◌&&◌, ◌||◌}
use mathlib.Core.Logic.{◌≢◌}
use mathlib.Core.List.{List, [], ◌∷◌, ◌++◌}
use Prim.Native.Nat.{ℕ}
use native.Mathlib.Omega.{arith}
use lib.Dec.{eqb}
use borrow.Author.Tests.{ne_eqb, eq-eqb}
use Rattle.base.proofs.Cases.{case, eq_ne}
use Rattle.roommates.specs.PhaseOne.{Work}
use Rattle.roommates.specs.Moves.{Outcome, outcome}
use Rattle.records.specs.declared.Record.{Record}
use Rattle.records.specs.Records.{Marked, with_mark, Acted, acted, acts, follows}
use Rattle.records.specs.Standing.{is_set_by}
use Rattle.records.specs.Claims.{UnfitRecord}
use Rattle.records.proofs.Acting.{is_saved, is_set_in, unfit_record_number, Does, does_step, does_mark, does_return, does_nothing, does}

module _ (whole : Bool) (n : ℕ) where
  pub data Followed : Marked → List Record → Marked → Type 0 where
    none_followed : {s : Marked} → Followed s [] s
    one_followed : {s v u : Marked} {r : Record} {rs : List Record} → acts whole n s r ≡ acted 0 v → Followed v rs u → Followed s (r ∷ rs) u

  follows_on : (s : Marked) (r : Record) {v : Marked} (rs : List Record) → acts whole n s r ≡ acted 0 v → follows whole n s (r ∷ rs) ≡ follows whole n v rs
  unfolding follows
  follows_on s r rs e = rw e refl

  pub follows_stop : (s : Marked) (r : Record) {k : ℕ} (rs : List Record) → k ≢ 0 → acts whole n s r ≡ acted k s
      → follows whole n s (r ∷ rs) ≡ outcome k s.working
  unfolding follows
  follows_stop s r {k} rs d e = rw (e, ne_eqb k 0 d) refl

  pub followed_all : {s u : Marked} {rs : List Record} → Followed s rs u → follows whole n s rs ≡ outcome 0 u.working
  unfolding follows
  followed_all none_followed = refl
  followed_all (one_followed {s} {r = r} {rs = rs} e f) = follows_on s r rs e ∙ followed_all f

  -- those followed come before the others
  pub followed_follows : {s u : Marked} {rs : List Record} → Followed s rs u → (later : List Record) → follows whole n s (rs ++ later) ≡ follows whole n u later
  followed_follows none_followed later = refl
  followed_follows (one_followed {s} {r = r} {rs = rs} e f) later = follows_on s r (rs ++ later) e ∙ followed_follows f later

  -- How a list of records comes out.
  pub data Came (s : Marked) (rs : List Record) (o : Outcome) : Type 0 where
    all_followed : (u : Marked) → Followed s rs u → o ≡ outcome 0 u.working → Came s rs o
    stopped : (earlier : List Record) (met : Record) (later : List Record) (u : Marked) (k : ℕ) → rs ≡ earlier ++ (met ∷ later)
        → Followed s earlier u → UnfitRecord n u.working (is_set_in u) met k → o ≡ outcome k u.working → Came s rs o

  one_more : {s v : Marked} {r : Record} {rs : List Record} {o : Outcome} → acts whole n s r ≡ acted 0 v → Came v rs o → Came s (r ∷ rs) o
  one_more e (all_followed u f h) = all_followed u (one_followed e f) h
  one_more {r = r} e (stopped earlier met later u k split f bad h) =
      stopped (r ∷ earlier) met later u k (ap (λ l. r ∷ l) split) (one_followed e f) bad h

  pub unfit_some : {w : Work} {set : ℕ → Bool} {r : Record} {k : ℕ} → UnfitRecord n w set r k → k ≢ 0
  unfit_some bad z = let few = unfit_record_number bad in omega (arith, few.0)

  pub came : (rs : List Record) (s : Marked) → Came s rs (follows whole n s rs)
  unfolding follows
  came [] s = all_followed s none_followed refl
  came (r ∷ rs) s = by_record (does whole n s r) (λ v. came rs v)
    where
      on : {v : Marked} → acts whole n s r ≡ acted 0 v → Came v rs (follows whole n v rs) → Came s (r ∷ rs) (follows whole n s (r ∷ rs))
      on e c = rw (follows_on s r rs e) (one_more e c)

      by_record : Does whole n s r → ((v : Marked) → Came v rs (follows whole n v rs)) → Came s (r ∷ rs) (follows whole n s (r ∷ rs))
      by_record (does_step e m h) rest = on h (rest _)
      by_record (does_mark e h) rest = on h (rest _)
      by_record (does_return e m h) rest = on h (rest _)
      by_record (does_nothing {k = k} bad h) rest = stopped [] r rs s k refl none_followed bad (follows_stop s r rs (unfit_some bad) h)

  -- WHICH MARKS ARE SET: those that a record sets. A return changes none.
  set_by_one : (s v : Marked) (r : Record) → acts whole n s r ≡ acted 0 v → (m : ℕ)
      → is_set_in v m ≡ ((eqb r.kind 1 && eqb r.number m) || is_set_in s m)
  set_by_one s v r h m = by_record (does whole n s r)
    where
      stands : {u : Marked} {k : ℕ} → acts whole n s r ≡ acted k u → v ≡ u
      stands g = ap (λ (a : Acted). a.stands) (sym h ∙ g)

      kept : r.kind ≢ 1 → is_set_in s m ≡ ((eqb r.kind 1 && eqb r.number m) || is_set_in s m)
      kept d = rw (ne_eqb r.kind 1 d) refl

      set : r.kind ≡ 1 → is_saved (with_mark r.number s.working s.marks m) ≡ ((eqb r.kind 1 && eqb r.number m) || is_set_in s m)
      set e =
          case (eq_ne r.number m)
          (λ same. rw (eq-eqb r.kind 1 e, eq-eqb r.number m same, eq-eqb m r.number (sym same)) refl)
          (λ d. rw (eq-eqb r.kind 1 e, ne_eqb r.number m d, ne_eqb m r.number (λ e. d (sym e))) refl)

      by_record : Does whole n s r → is_set_in v m ≡ ((eqb r.kind 1 && eqb r.number m) || is_set_in s m)
      by_record (does_step e i g) = ap (λ (u : Marked). is_set_in u m) (stands g) ∙ kept (λ z. omega arith)
      by_record (does_mark e g) = ap (λ (u : Marked). is_set_in u m) (stands g) ∙ set e
      by_record (does_return e i g) = ap (λ (u : Marked). is_set_in u m) (stands g) ∙ kept (λ z. omega arith)
      by_record (does_nothing bad g) = absurd (unfit_some bad (sym (ap (λ (a : Acted). a.refusal) (sym h ∙ g))))

  pub set_by : {s u : Marked} {rs : List Record} → Followed s rs u → (m : ℕ) → is_set_in u m ≡ (is_set_by rs m || is_set_in s m)
  unfolding is_set_by
  set_by none_followed m = refl
  set_by (one_followed {s} {v} {u} {r} {rs} e f) m =
      set_by f m
      ∙ ap (λ b. is_set_by rs m || b) (set_by_one s v r e m)
      ∙ shuffle (eqb r.kind 1 && eqb r.number m) (is_set_by rs m) (is_set_in s m)
    where
      shuffle : (a b c : Bool) → (b || (a || c)) ≡ ((a || b) || c)
      shuffle true true c = refl
      shuffle true false c = refl
      shuffle false true c = refl
      shuffle false false c = refl
