-- A pairing is super-stable, and every super-stable matching pairs just the joints with a list left where phase one ended.
use mathlib.Core.Path.{◌≡◌, sym, ◌∙◌}
use mathlib.Core.Bool.{true}
use mathlib.Core.Logic.{inl, inr}
use mathlib.Core.List.{List}
use Prim.Native.Nat.{ℕ, ◌≤◌, ◌<◌}
use native.Mathlib.Omega.{arith}
use lib.Dec.{eqb}
use borrow.Author.Tests.{eq-eqb, ne_eqb}
use Rattle.sheet.specs.Square.{at, SquarePromise}
use Rattle.base.proofs.Cases.{case, lt_ge}
use Rattle.matching.specs.Matchings.{partner}
use Rattle.blocking.specs.Blocking.{is_super_stable}
use Rattle.roommates.specs.Lists.{Square, row, list_length}
use Rattle.roommates.specs.PhaseOne.{Work}
use Rattle.roommates.specs.Left.{pairing_of}
use Rattle.roommates.specs.Runs.{OneEnded}
use Rattle.roommates.proofs.Basics.{Stable}
use Rattle.roommates.proofs.Sound.{Sound, promise_sound}
use Rattle.roommates.proofs.PairsWritten.{partner_none, pairing_at, pairing_length}
use Rattle.roommates.proofs.HasList.{HasList}
use Rattle.roommates.proofs.PhaseOneEnds.{pairs_all, pairs_only}
use Rattle.roommates.proofs.PhaseTwoEnds.{partner_in, had_list}
use Rattle.roommates.proofs.SuperStable.{super_stable, super_placed, stable_super}
use Rattle.roommates.proofs.Verdicts.{Pairing, pairing_is_stable}

module _ {n : ℕ} {t : Square} (promise : SquarePromise n t) where
  s : Sound n t
  s = promise_sound promise

  pub pairing_super : {w : Work} {u : Square} → Pairing n t w u → is_super_stable n t (pairing_of n u) ≡ true
  pairing_super {w} {u} p =
      let stable : Stable (at t) (partner_in n u) = pairing_is_stable s p in
      stable_super promise (pairing_of n u) (pairing_length n u)
      (λ a l. case (lt_ge 0 (list_length n (row u a)))
      (λ h. inr (pairs_all s p.one stable a (had_list s p.one p.unemptied p.made a h)))
      (λ h. inl (pairing_at n u a l ∙ partner_none n (row u a) (omega arith))))
      stable

  pub unpaired_alike : {w : Work} → OneEnded n t w → (m : List ℕ) → is_super_stable n t m ≡ true → (a : ℕ) → a < n
      → eqb (partner m a) 255 ≡ eqb (list_length n (row w.lists a)) 0
  unpaired_alike {w} e m super a l =
      let stable : Stable (at t) (partner m) = super_stable promise m super in
      case (lt_ge 0 (list_length n (row w.lists a)))
      (λ h.
      let k : 0 < at t a (partner m a) = pairs_all s e stable a h in
      let i : (a < n) × (partner m a < n) = s.inside a (partner m a) k in
      let few : n ≤ 128 = s.few_joints in
      ne_eqb (partner m a) 255 (omega arith) ∙ sym (ne_eqb (list_length n (row w.lists a)) 0 (omega arith)))
      (λ h.
      let z : partner m a ≡ 255 =
      case (super_placed promise m super a l)
      (λ x. x)
      (λ x. let k : HasList n w.lists a = pairs_only s e stable a x in absurd (omega arith)) in
      eq-eqb (partner m a) 255 z ∙ sym (eq-eqb (list_length n (row w.lists a)) 0 (omega arith)))
