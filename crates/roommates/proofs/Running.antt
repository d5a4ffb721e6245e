-- Along any run: what each proposal keeps is kept, the lists only shrink, who received has received; and phase one is a run.
use mathlib.Core.Path.{◌≡◌, refl, ◌∙◌}
use mathlib.Core.Bool.{Bool, false, true}
use mathlib.Core.Logic.{◌⊎◌, inl, inr}
use Prim.Native.Nat.{ℕ, zero, suc, ◌+◌, ◌≤◌, ◌<◌}
use native.Mathlib.Omega.{arith}
use lib.Dec.{eqb}
use borrow.Author.Tests.{eqb-true, eqb-false}
use Rattle.base.proofs.Cases.{case, both_ways}
use Rattle.roommates.specs.PhaseOne.{Work, waits, step, lowest_waiting, run_out}
use Rattle.roommates.specs.Runs.{Run, stop, then}
use Rattle.roommates.proofs.Proposals.{State}
use Rattle.base.proofs.Lowest.{none_passes, lowest_at_most, lowest_passes}
use Rattle.roommates.proofs.Sound.{Shrunk, shrunk_refl, shrunk_trans}
use Rattle.roommates.proofs.States.{state_of, Steady}
use Rattle.roommates.proofs.StepProposals.{Kept}
use Rattle.roommates.proofs.Steps.{step_steady, step_shrunk, step_keeps, step_proposes, step_cuts}

pub run_steady : {n : ℕ} {w w' : Work} → Run n w w' → Steady n w → Steady n w'
run_steady stop s = s
run_steady (then p h e r) s = run_steady r (step_steady s p h e)

pub run_keeps : {n : ℕ} {w w' : Work} {Q : State → Type 0} → Kept Q → Run n w w' → Steady n w → Q (state_of w) → Q (state_of w')
run_keeps kept stop s q = q
run_keeps kept (then p h e r) s q = run_keeps kept r (step_steady s p h e) (step_keeps s p h e kept q)

pub run_shrunk : {n : ℕ} {w w' : Work} → Run n w w' → Steady n w → Shrunk w.lists w'.lists
run_shrunk stop s = shrunk_refl s.sound
run_shrunk (then p h e r) s = shrunk_trans (step_shrunk s p h e) (run_shrunk r (step_steady s p h e))

pub run_cuts : {n : ℕ} {w w' : Work} → Run n w w' → w'.cuts ≡ w.cuts
run_cuts stop = refl
run_cuts {n} {w} {w'} (then p h e r) = run_cuts r ∙ step_cuts n w p

-- phase one without choices, with f steps to go, is a run; it ends, or each step made a proposal
pub record RanOut (n f : ℕ) (w w' : Work) : Type 0 where
  pub run : Run n w w'
  pub how : ((p : ℕ) → p < n → waits n w' p ≡ false) ⊎ (w.proposals + f ≤ w'.proposals)

pub runs_out : (f n : ℕ) (w : Work) → RanOut n f w (run_out f n w)
unfolding run_out
runs_out zero n w = record { run = stop; how = inr (omega arith) }
runs_out (suc f) n w =
    let test : ℕ → Bool = λ p. waits n w p in
    let low : ℕ = lowest_waiting n w in
    case (both_ways (eqb low n))
    (λ b. rw b record { run = stop; how = inl (none_passes n test (eqb-true low n b)) })
    (λ b.
    let lt : low < n = let d = eqb-false low n b in omega (arith, lowest_at_most n test) in
    let ok : waits n w low ≡ true = lowest_passes n test lt in
    let m : RanOut n f (step n w low) (run_out f n (step n w low)) = runs_out f n (step n w low) in
    rw b record {
      run = then low lt ok m.run;
      how = case m.how inl (λ more. inr (omega (arith, step_proposes n w low ok)));
    })
