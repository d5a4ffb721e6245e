-- Where a run of phase one has ended: its heads, its table, and what it says of every super-stable matching.
use mathlib.Core.Path.{◌≡◌}
use mathlib.Core.Bool.{true, false}
use Prim.Native.Nat.{ℕ, ◌≤◌, ◌<◌}
use native.Mathlib.Omega.{arith}
use Rattle.sheet.specs.Square.{at}
use Rattle.roommates.specs.Lists.{Square, row, first_on}
use Rattle.roommates.specs.PhaseOne.{Work, some_emptied}
use Rattle.roommates.specs.Runs.{OneEnded}
use Rattle.roommates.proofs.Basics.{Stable, On, PhaseEnd}
use Rattle.roommates.proofs.Proposals.{Invariant, Ended}
use Rattle.roommates.proofs.StrikesCompose.{was_there, below_refl}
use Rattle.roommates.proofs.FirstOn.{first_best}
use Rattle.roommates.proofs.Heads.{Heads}
use Rattle.roommates.proofs.ReceivedEmpty.{ReceivedEmpty}
use Rattle.roommates.proofs.Confluence.{NoneEmpty}
use Rattle.roommates.proofs.SameJoints.{SameJoints}
use Rattle.roommates.proofs.Tables.{Table}
use Rattle.roommates.proofs.PhaseEndIsTable.{phase_end_table}
use Rattle.roommates.proofs.Sound.{Sound}
use Rattle.roommates.proofs.States.{state_of, Steady, fresh_steady, quiet_ended}
use Rattle.roommates.proofs.Running.{run_steady}
use Rattle.roommates.proofs.Emptied.{some_emptied_lem, none_emptied_lem}
use Rattle.roommates.proofs.RunsKeep.{run_invariant, run_survives}
use Rattle.roommates.proofs.HasList.{HasList, has_list, on_list}

module _ {n : ℕ} {t : Square} {w : Work} (s : Sound n t) (e : OneEnded n t w) where
  steady : Steady n w
  steady = run_steady e.run (fresh_steady s)

  pub one_sound : Sound n w.lists
  one_sound = steady.sound

  invariant : Invariant (at t) (state_of w)
  invariant = run_invariant s e.run

  pub one_ended : Ended (state_of w)
  one_ended = quiet_ended steady e.quiet

  pub one_end : PhaseEnd (at t) (at w.lists) (state_of w).Received
  one_end = Heads n invariant one_ended (λ a b h. (one_sound.inside a b h).0) (λ p. first_on n (row w.lists p))
      λ p q h.
      let r : (first_on n (row w.lists p) < n) × (0 < at w.lists p (first_on n (row w.lists p)))
      × (at w.lists p (first_on n (row w.lists p)) ≤ at w.lists p q)
      = first_best n (row w.lists p) q (one_sound.inside p q h).1 h in
      (r.1, r.2)

  pub one_none_empty : some_emptied n w ≡ false → NoneEmpty (state_of w)
  one_none_empty h q g = none_emptied_lem n w h q (s.inside q _ (invariant.received q g).1).0 g

  pub one_table : some_emptied n w ≡ false → Table (at t) (HasList n w.lists) (at w.lists)
  one_table h =
      phase_end_table one_end (has_list one_sound) (on_list n w.lists)
      λ q g. let r : (b : ℕ) × (0 < at w.lists q b) = one_none_empty h q g in has_list one_sound q r.0 r.1

  module _ {M : ℕ → ℕ} (stable : Stable (at t) M) where
    pub one_on : On (at t) (at w.lists) M
    one_on = run_survives s e.run s.both stable (below_refl s.both) (λ p h. h)

    -- a matching that no pair blocks pairs just the joints with a list left
    pub pairs_all : (p : ℕ) → HasList n w.lists p → 0 < at t p (M p)
    pairs_all p h =
        let r : (q : ℕ) × (0 < at w.lists p q) = on_list n w.lists p h in
        was_there one_end.below p (M p) (SameJoints one_end stable one_on p r.0 r.1)

    pub pairs_only : (p : ℕ) → 0 < at t p (M p) → HasList n w.lists p
    pairs_only p h = has_list one_sound p (M p) (one_on p h)

    -- .. and there is none where a joint received and has an empty list
    pub none_where_emptied : some_emptied n w ≡ true → ⊥
    none_where_emptied h =
        let r : (a : ℕ) × (a < n) × ((state_of w).Received a) × ((b : ℕ) → at w.lists a b ≡ 0) = some_emptied_lem n w one_sound h in
        ReceivedEmpty stable (below_refl s.both) one_on invariant r.0 r.2 λ b l. let z : at w.lists r.0 b ≡ 0 = r.3 b in omega arith
