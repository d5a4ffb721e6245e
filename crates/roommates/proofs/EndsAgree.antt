-- Two runs of phase one to their ends: both leave somebody who received with an empty list, or neither does and the lists are the same.
use mathlib.Core.Path.{◌≡◌, sym, ◌∙◌}
use mathlib.Core.Bool.{true, false}
use Prim.Native.Nat.{ℕ, ◌<◌}
use native.Mathlib.Omega.{arith}
use Rattle.sheet.specs.Square.{at}
use Rattle.base.proofs.Cases.{case, both_ways}
use Rattle.roommates.specs.Lists.{Square}
use Rattle.roommates.specs.PhaseOne.{Work, some_emptied}
use Rattle.roommates.specs.Runs.{OneEnded}
use Rattle.roommates.proofs.Confluence.{Under, same_lists, empty_everywhere}
use Rattle.roommates.proofs.Sound.{Sound}
use Rattle.roommates.proofs.States.{state_of}
use Rattle.roommates.proofs.Emptied.{some_emptied_lem}
use Rattle.roommates.proofs.RunsKeep.{run_invariant, run_under}
use Rattle.roommates.proofs.HasList.{HasList, has_list, on_list}
use Rattle.roommates.proofs.PhaseOneEnds.{one_sound, one_ended, one_none_empty}

module _ {n : ℕ} {t : Square} (s : Sound n t) where
  under : {v w : Work} → OneEnded n t v → OneEnded n t w → some_emptied n w ≡ false → Under (state_of w) (state_of v)
  under d e ok = run_under s d.run e.run (one_ended s e) (one_none_empty s e ok)

  pub ends_agree : {v w : Work} → OneEnded n t v → OneEnded n t w → some_emptied n v ≡ false → some_emptied n w ≡ false
      → (a b : ℕ) → at v.lists a b ≡ at w.lists a b
  ends_agree d e okv okw = same_lists (run_invariant s d.run) (run_invariant s e.run) (under d e okw) (under e d okv)

  not_one : {v w : Work} → OneEnded n t v → OneEnded n t w → some_emptied n v ≡ true → some_emptied n w ≡ false → ⊥
  not_one {v} {w} d e bad ok =
      let r : (a : ℕ) × (a < n) × ((state_of v).Received a) × ((b : ℕ) → at v.lists a b ≡ 0) = some_emptied_lem n v (one_sound s d) bad in
      empty_everywhere (under d e ok) (one_none_empty s e ok) r.0 r.2 λ b l. let z : at v.lists r.0 b ≡ 0 = r.3 b in omega arith

  pub ends_emptied : {v w : Work} → OneEnded n t v → OneEnded n t w → some_emptied n v ≡ some_emptied n w
  ends_emptied {v} {w} d e = case (both_ways (some_emptied n v))
      (λ x. case (both_ways (some_emptied n w)) (λ y. x ∙ sym y) (λ y. absurd (not_one d e x y)))
      (λ x. case (both_ways (some_emptied n w)) (λ y. absurd (not_one e d y x)) (λ y. x ∙ sym y))

  -- so the joints with a list left are the same
  pub ends_listed : {v w : Work} → OneEnded n t v → OneEnded n t w → some_emptied n v ≡ false → some_emptied n w ≡ false
      → (a : ℕ) → HasList n v.lists a → HasList n w.lists a
  ends_listed {v} {w} d e okv okw a h =
      let r : (b : ℕ) × (0 < at v.lists a b) = on_list n v.lists a h in
      has_list (one_sound s e) a r.0 (rw (ends_agree d e okv okw a r.0) at r.1)
