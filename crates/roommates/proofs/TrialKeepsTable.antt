-- Lemma 3.4: a trial that leaves nobody with an empty list ends in a table.
use mathlib.Core.Path.{◌≡◌}
use mathlib.Core.Logic.{inr, ⊎_map}
use Prim.Native.Nat.{ℕ, ◌≤◌, ◌<◌}
use native.Mathlib.Omega.{arith}
use Rattle.base.proofs.Cases.{case}
use Rattle.roommates.proofs.Basics.{Bands, Below, Beaten, PhaseEnd}
use Rattle.roommates.proofs.Proposals.{Trim}
use Rattle.roommates.proofs.StrikesCompose.{was_there, below_trans, trim_below}
use Rattle.roommates.proofs.Tables.{Table}
use Rattle.roommates.proofs.PhaseEndIsTable.{ended_table}

-- what a trial leaves was there before it
pub trial_below : {T T₀ T' : Bands} {R : ℕ → Type 0} {v k : ℕ} → Trim T T₀ v k → PhaseEnd T₀ T' R → Below T' T
trial_below s e = below_trans e.below (trim_below s)

module _ {P T T₀ T' : Bands} {N R : ℕ → Type 0} (t : Table P N T) (v : ℕ) (Nv : N v) (s : Trim T T₀ v (T v (t.last v)))
    (e : PhaseEnd T₀ T' R) (some_left : (p : ℕ) → N p → (q : ℕ) × (0 < T' p q)) where
  abbrev Side : ℕ → ℕ → Type 0
  Side a b = N a × (T' a (e.last a) < P a b)

  end_last : (a : ℕ) → N a → 0 < T' a (e.last a)
  end_last a Na = e.has_last a _ (some_left a Na).1

  -- struck before the trial
  before : (a b : ℕ) → N a × (T a (t.last a) < P a b) → Side a b
  before a b w =
      let l = end_last a w.0 in
      let h = (trial_below s e).kept a _ l in
      let g : T a (e.last a) ≤ T a (t.last a) = t.worst a _ (was_there (trial_below s e) a _ l) in
      let k = w.1 in
      (w.0, omega arith)

  -- struck as the trial began
  v_struck : (b : ℕ) → 0 < T v b → T v (t.last v) ≤ T v b → Side v b
  v_struck b l w =
      let lv = end_last v Nv in
      let h = (trial_below s e).kept v _ lv in
      let g = s.limit _ (was_there e.below v _ lv) in
      let m = t.below.kept v b l in
      (Nv, omega arith)

  at_start : (a b : ℕ) → 0 < T a b → (a ≡ v) × (T v (t.last v) ≤ T a b) → Side a b
  at_start a b l w = rw w.0 (v_struck b (rw w.0 at l) (rw w.0 at w.1))

  -- struck in the trial
  within : (a b : ℕ) → 0 < T₀ a b → R a × Beaten T₀ T' a b → Side a b
  within a b l w =
      let f = e.was_listed a w.0 in
      let Na : N a = t.listed a _ (was_there (trim_below s) a _ f.1) in
      let g = w.1 _ (end_last a Na) in
      let h = s.same a b l in
      let m = t.below.kept a b (was_there (trim_below s) a b l) in
      (Na, omega arith)

  pub trial_table : Table P N T'
  trial_table =
      ended_table e (below_trans (trial_below s e) t.below)
      (λ p q l. t.listed p q (was_there (trial_below s e) p q l))
      some_left
      (λ a b l. case (t.struck a b l)
      (λ la. case (s.gone a b la)
      (λ l₀. ⊎_map (λ k. k) (⊎_map (within a b l₀) (within b a (s.both a b l₀))) (e.struck a b l₀))
      (λ w. inr (⊎_map (at_start a b la) (at_start b a (t.below.both a b la)) w)))
      (λ w. inr (⊎_map (before a b) (before b a) w)))
