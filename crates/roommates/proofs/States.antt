-- A working as a state of the theory.
use mathlib.Core.Path.{◌≡◌, refl}
use mathlib.Core.Bool.{false}
use Prim.Native.Nat.{ℕ, zero, suc, ◌≤◌, ◌<◌}
use native.Mathlib.Omega.{arith}
use lib.ListN.{length, get_or, replicate, length-replicate}
use Rattle.sheet.specs.Square.{at}
use Rattle.roommates.specs.Lists.{Square, row}
use Rattle.roommates.specs.PhaseOne.{Work, fresh, waits}
use Rattle.roommates.proofs.Proposals.{State, Ended}
use Rattle.roommates.proofs.Waiting.{StandsAt, not_waiting}
use Rattle.roommates.proofs.Sound.{Sound}

abbrev pub state_of : Work → State
state_of w = record {
  lists = at w.lists;
  Received = λ p. get_or w.received p 0 ≡ 1;
  Stands = StandsAt w.lists w.reach;
}

-- What holds of every working: a joint's list has nothing better than the band that it last proposed to.
pub record Steady (n : ℕ) (w : Work) : Type 0 where
  pub sound : Sound n w.lists
  pub reach_length : length w.reach ≡ 128
  pub received_length : length w.received ≡ 128
  pub heads : (p q : ℕ) → 0 < at w.lists p q → get_or w.reach p 0 ≤ at w.lists p q

pub zeros : (m i : ℕ) → ◌≡◌ {A = ℕ} (get_or (replicate m 0) i 0) 0
zeros zero i = refl
zeros (suc m) zero = refl
zeros (suc m) (suc i) = zeros m i

pub fresh_steady : {n : ℕ} {t : Square} → Sound n t → Steady n (fresh t)
fresh_steady s = record {
  sound = s;
  reach_length = length-replicate {A = ℕ} 128 0;
  received_length = length-replicate {A = ℕ} 128 0;
  heads = λ p q h. rw (zeros 128 p) (omega arith);
}

pub fresh_stands : (t : Square) (p q : ℕ) → (state_of (fresh t)).Stands p q → ⊥
fresh_stands t p q h = omega (arith, zeros 128 p)

pub fresh_received : (t : Square) (p : ℕ) → (state_of (fresh t)).Received p → ⊥
fresh_received t p h = omega (arith, zeros 128 p)

-- where nobody waits, phase one has ended
pub quiet_ended : {n : ℕ} {w : Work} → Steady n w → ((p : ℕ) → p < n → waits n w p ≡ false) → Ended (state_of w)
quiet_ended {n} {w} s quiet p q h best =
    let m : (p < n) × (q < n) = s.sound.inside p q h in
    let r : (i : ℕ) × (i < n) × (0 < get_or w.reach p 0) × (at w.lists p i ≡ get_or w.reach p 0)
    = not_waiting n (get_or w.reach p 0) (row w.lists p) (quiet p m.0) q m.1 h in
    let b : at w.lists p q ≤ at w.lists p r.0 = best r.0 (omega arith) in
    let c : get_or w.reach p 0 ≤ at w.lists p q = s.heads p q h in
    (r.2, omega arith)
