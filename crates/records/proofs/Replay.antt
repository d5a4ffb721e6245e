-- After any records the working is that of the steps standing, and each mark's that of the steps that stood when it was set.
use mathlib.Core.Path.{◌≡◌, refl, sym, ◌∙◌, ap, subst}
use mathlib.Core.Bool.{Bool}
use mathlib.Core.List.{List, [], ◌∷◌, ◌++◌}
use Prim.Native.Nat.{ℕ}
use lib.Dec.{eqb}
use borrow.Author.Tests.{ne_eqb, eq-eqb, eqb-false}
use Rattle.base.proofs.Cases.{case, both_ways, eq_ne}
use Rattle.roommates.specs.Lists.{Square}
use Rattle.roommates.specs.PhaseOne.{Work}
use Rattle.roommates.specs.Moves.{begun, Outcome, outcome, move, moves}
use Rattle.records.specs.declared.Record.{Record}
use Rattle.records.specs.Records.{unset, saved, Marked, marked, with_mark, Acted, acted, acts, started}
use Rattle.records.specs.Standing.{Stand, stand, stands_in, stands_after, standing}
use Rattle.records.proofs.Acting.{Does, does_step, does_mark, does_return, does_nothing, does}
use Rattle.records.proofs.Following.{Followed, none_followed, one_followed, unfit_some}

module _ (whole : Bool) (n : ℕ) where
  -- choices that are made, and others after them
  moves_more : (cs : List ℕ) (w : Work) {v : Work} → moves whole n w cs ≡ outcome 0 v → (ds : List ℕ) → moves whole n w (cs ++ ds) ≡ moves whole n v ds
  unfolding moves
  moves_more [] w e ds = ap (λ (o : Outcome). moves whole n o.work_is ds) e
  moves_more (x ∷ cs) w {v} e ds =
      case (both_ways (eqb (move whole n w x).refusal 0))
      (λ z. rw z (moves_more cs (move whole n w x).work_is (rw z at e) ds))
      (λ d.
      let stopped : move whole n w x ≡ outcome 0 v = rw d at e in
      absurd (eqb-false _ _ d (ap (λ (o : Outcome). o.refusal) stopped)))

  one_move : (w : Work) (x : ℕ) {v : Work} → move whole n w x ≡ outcome 0 v → moves whole n w (x ∷ []) ≡ outcome 0 v
  unfolding moves
  one_move w x e = rw e refl

  module _ (t : Square) where
    -- s is where the steps standing take a fresh working, and each mark has saved where those take it that stood when it was set
    pub record Replayed (s : Marked) (d : Stand) : Type 0 where
      pub now_is : moves whole n (begun whole n t) d.now ≡ outcome 0 s.working
      pub at_is : (m : ℕ) (w : Work) → s.marks m ≡ saved w → moves whole n (begun whole n t) (d.at m) ≡ outcome 0 w

    saved_same : {v w : Work} → saved v ≡ saved w → v ≡ w
    saved_same {v} {w} e = cc

    step_replayed : (s : Marked) (d : Stand) (x : ℕ) {v : Work} → move whole n s.working x ≡ outcome 0 v → Replayed s d
        → Replayed (marked v s.marks) (stands_in 0 d x)
    step_replayed s d x m r = record {
      now_is = moves_more d.now (begun whole n t) r.now_is (x ∷ []) ∙ one_move s.working x m;
      at_is = r.at_is;
    }

    mark_replayed : (s : Marked) (d : Stand) (m : ℕ) → Replayed s d → Replayed (marked s.working (with_mark m s.working s.marks)) (stands_in 1 d m)
    mark_replayed s d m r = record {
      now_is = r.now_is;
      at_is = λ i w h.
          case (eq_ne i m)
          (λ e.
          let same : s.working ≡ w = saved_same (rw (eq-eqb i m e) at h) in
          rw (eq-eqb i m e) (r.now_is ∙ ap (outcome 0) same))
          (λ e. rw (ne_eqb i m e) (r.at_is i w (rw (ne_eqb i m e) at h)));
    }

    return_replayed : (s : Marked) (d : Stand) (m : ℕ) (w : Work) → s.marks m ≡ saved w → Replayed s d → Replayed (marked w s.marks) (stands_in 2 d m)
    return_replayed s d m w h r = record { now_is = r.at_is m w h; at_is = r.at_is }

    one_replayed : (s v : Marked) (d : Stand) (r : Record) → acts whole n s r ≡ acted 0 v → Replayed s d → Replayed v (stands_in r.kind d r.number)
    one_replayed s v d r h p = by_record (does whole n s r)
      where
        at_kind : {u : Marked} {i k : ℕ} → r.kind ≡ i → acts whole n s r ≡ acted k u → Replayed u (stands_in i d r.number) → Replayed v (stands_in r.kind d r.number)
        at_kind {u} {i} e g q =
            let same : u ≡ v = ap (λ (a : Acted). a.stands) (sym g ∙ h) in
            subst (λ j. Replayed v (stands_in j d r.number)) (sym e) (subst (λ z. Replayed z (stands_in i d r.number)) same q)

        by_record : Does whole n s r → Replayed v (stands_in r.kind d r.number)
        by_record (does_step e m g) = at_kind e g (step_replayed s d r.number m p)
        by_record (does_mark e g) = at_kind e g (mark_replayed s d r.number p)
        by_record (does_return {w} e m g) = at_kind e g (return_replayed s d r.number w m p)
        by_record (does_nothing bad g) = absurd (unfit_some whole n bad (sym (ap (λ (a : Acted). a.refusal) (sym h ∙ g))))

    all_replayed : {s u : Marked} {rs : List Record} → Followed whole n s rs u → (d : Stand) → Replayed s d → Replayed u (stands_after d rs)
    unfolding stands_after
    all_replayed none_followed d p = p
    all_replayed (one_followed {s} {v} {u} {r} {rs} e f) d p = all_replayed f (stands_in r.kind d r.number) (one_replayed s v d r e p)

    start_replayed : Replayed (started whole n t) (stand [] (λ i. []))
    unfolding moves
    start_replayed = record { now_is = refl; at_is = λ m w h. let e : unset ≡ saved w = h in cc }

    -- so the steps standing after records that were followed take a fresh working to where they stand
    pub followed_replayed : {u : Marked} {rs : List Record} → Followed whole n (started whole n t) rs u
        → moves whole n (begun whole n t) (standing rs) ≡ outcome 0 u.working
    followed_replayed f = (all_replayed f (stand [] (λ i. [])) start_replayed).now_is
