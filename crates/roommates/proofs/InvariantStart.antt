-- The invariant holds at the start, and where fewer proposals stand.
use mathlib.Core.Path.{◌≡◌}
use mathlib.Core.Logic.{inl}
use Prim.Native.Nat.{ℕ, ◌<◌}
use native.Mathlib.Omega.{arith}
use Rattle.roommates.proofs.Basics.{Bands}
use Rattle.roommates.proofs.Proposals.{State, Invariant}

-- w has the lists T₀, nobody has received and nothing stands
pub record Fresh (T₀ : Bands) (w : State) : Type 0 where
  pub whole : (a b : ℕ) → w.lists a b ≡ T₀ a b
  pub unreceived : (a : ℕ) → ¬ (w.Received a)
  pub unproposed : (a b : ℕ) → ¬ (w.Stands a b)

pub Invariant-start : {T₀ : Bands} {w : State} → ((a b : ℕ) → 0 < T₀ a b → 0 < T₀ b a) → Fresh T₀ w → Invariant T₀ w
Invariant-start {T₀} {w} both₀ fresh = record {
  below = record {
    kept = λ a b h. fresh.whole a b;
    both = λ a b h. let e = fresh.whole b a in let l = both₀ a b (rw (fresh.whole a b) at h) in omega arith;
  };
  struck = λ a b h. inl (let e = fresh.whole a b in omega arith);
  listed = λ a b st. absurd (fresh.unproposed a b st);
  heads = λ a b st. absurd (fresh.unproposed a b st);
  holder_received = λ a b st. absurd (fresh.unproposed a b st);
  holder_worst = λ a b st. absurd (fresh.unproposed a b st);
  one_stands = λ a c b st. absurd (fresh.unproposed a b st);
  received = λ a h. absurd (fresh.unreceived a h);
}

-- the state w with S for what stands
abbrev pub standing : State → (ℕ → ℕ → Type 0) → State
standing w S = record { lists = w.lists; Received = w.Received; Stands = S }

pub Invariant-fewer : {T₀ : Bands} {w : State} (S : ℕ → ℕ → Type 0) → ((a b : ℕ) → S a b → w.Stands a b)
    → Invariant T₀ w → Invariant T₀ (standing w S)
Invariant-fewer S fewer inv = record {
  below = inv.below;
  struck = inv.struck;
  listed = λ a b st. inv.listed a b (fewer a b st);
  heads = λ a b st. inv.heads a b (fewer a b st);
  holder_received = λ a b st. inv.holder_received a b (fewer a b st);
  holder_worst = λ a b st. inv.holder_worst a b (fewer a b st);
  one_stands = λ a c b sa sc. inv.one_stands a c b (fewer a b sa) (fewer c b sc);
  received = inv.received;
}
