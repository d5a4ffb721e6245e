-- A proposal keeps the invariant, of which Lemma 2.3 is a part.
use mathlib.Core.Path.{◌≡◌, sym, ◌∙◌}
use mathlib.Core.Logic.{◌⊎◌, inl, inr}
use Prim.Native.Nat.{ℕ, ◌≤◌, ◌<◌}
use native.Mathlib.Omega.{arith}
use Rattle.base.proofs.Cases.{case}
use Rattle.roommates.proofs.Basics.{Bands, Below, Beaten}
use Rattle.roommates.proofs.StrikesCompose.{was_there, below_trans, proposal_below}
use Rattle.roommates.proofs.Proposals.{Trim, State, Proposal, Invariant}

-- a strike leaves only strictly better ones than the struck with the joint that struck
struck_by : {T₀ T T' : Bands} {q k : ℕ} → Below T T₀ → Trim T T' q k → (r : ℕ) → 0 < T q r → k ≤ T q r → Beaten T₀ T' q r
struck_by {q = q} s t r h far x hx =
    let e = t.same q x hx in
    let l = t.limit x hx in
    let e₀ = s.kept q r h in
    omega arith

module _ {T₀ : Bands} {w w' : State} {p q : ℕ} (inv : Invariant T₀ w) (step : Proposal w w' p q) where
  -- what is listed now was listed before, in the same band
  now : Below w'.lists w.lists
  now = proposal_below step

  still_beaten : (a b : ℕ) → Beaten T₀ w.lists a b → Beaten T₀ w'.lists a b
  still_beaten a b h s hs =
      let e = now.kept a s hs in
      let l = h s (was_there now a s hs) in
      omega arith

  -- who struck {a, b}: it was struck before, or q strikes it now
  struck_now : (k a b : ℕ) → Trim w.lists w'.lists q k → 0 < w.lists a b
      → (0 < w'.lists a b) ⊎ ((w'.Received a × Beaten T₀ w'.lists a b) ⊎ (w'.Received b × Beaten T₀ w'.lists b a))
  struck_now k a b t h = case (t.gone a b h) inl
      λ g. inr (case g
      (λ x. inl (rw x.0 (step.now_received, struck_by inv.below t b (rw x.0 at h) (rw x.0 at x.1))))
      (λ x. inr (rw x.0 (step.now_received, struck_by inv.below t a (rw x.0 at (inv.below.both a b h)) (rw x.0 at x.1)))))

  struck_still : (a b : ℕ) → 0 < T₀ a b
      → (0 < w'.lists a b) ⊎ ((w'.Received a × Beaten T₀ w'.lists a b) ⊎ (w'.Received b × Beaten T₀ w'.lists b a))
  struck_still a b h = case (inv.struck a b h)
      (λ on. case step.strikes (λ t. struck_now _ a b t.0 on) (λ t. struck_now _ a b t.0 on))
      λ g. inr (case g (λ x. inl (step.still_received a x.0, still_beaten a b x.1))
      (λ x. inr (step.still_received b x.0, still_beaten b a x.1)))

  -- q keeps nobody worse than p, and p itself only where just the worse ones went
  worst_now : (r : ℕ) → 0 < w'.lists q r → w'.lists q r ≤ w.lists q p
  worst_now r h =
      let e = now.kept q r h in
      case step.strikes (λ t. let l = t.0.limit r h in omega arith) (λ t. let l = t.0.limit r h in omega arith)

  alone_now : 0 < w'.lists p q → (s : ℕ) → w.Stands s q → 0 < w'.lists s q → s ≡ p
  alone_now h s st hs = case step.strikes (λ t. t.1 s st hs)
      λ t. let l = t.0.limit p (now.both p q h) in absurd (omega arith)

  heads_still : (a b : ℕ) → w'.Stands a b → (r : ℕ) → 0 < w'.lists a r → w'.lists a b ≤ w'.lists a r
  heads_still a b st r h =
      let (on, from) = step.stands a b st in
      let e = now.kept a b on in
      let f = now.kept a r h in
      let g = was_there now a r h in
      case from (λ old. let l = inv.heads a b old r g in omega arith)
      λ new. let l : w.lists a b ≤ w.lists a r = rw (new.0, new.1) (step.best r (rw new.0 at g)) in omega arith

  received_still : (a b : ℕ) → w'.Stands a b → w'.Received b
  received_still a b st = case (step.stands a b st).1 (λ old. step.still_received b (inv.holder_received a b old))
      λ new. rw new.1 step.now_received

  worst_still : (a b : ℕ) → w'.Stands a b → (r : ℕ) → 0 < w'.lists b r → w'.lists b r ≤ w'.lists b a
  worst_still a b st r h =
      let (on, from) = step.stands a b st in
      let e = now.kept b a (now.both a b on) in
      let f = now.kept b r h in
      case from (λ old. let l = inv.holder_worst a b old r (was_there now b r h) in omega arith)
      λ new. let l : w'.lists b r ≤ w.lists b a = rw (new.0, new.1) (worst_now r (rw new.1 at h)) in omega arith

  one_still : (a c b : ℕ) → w'.Stands a b → w'.Stands c b → c ≡ a
  one_still a c b sa sc =
      let (ona, froma) = step.stands a b sa in
      let (onc, fromc) = step.stands c b sc in
      case froma
      (λ olda. case fromc (λ oldc. inv.one_stands a c b olda oldc)
      λ new. new.0 ∙ sym (alone_now (rw (new.0, new.1) at onc) a (rw new.1 at olda) (rw new.1 at ona)))
      λ new. case fromc
      (λ oldc. alone_now (rw (new.0, new.1) at ona) c (rw new.1 at oldc) (rw new.1 at onc) ∙ sym new.0)
      λ also. also.0 ∙ sym new.0

  -- whom the received joint took its last proposal from
  suitor : (a : ℕ) → w'.Received a → (c : ℕ) × (0 < T₀ a c) × ((r : ℕ) → 0 < w'.lists c r → T₀ c a ≤ w'.lists c r)
      × ((r : ℕ) → 0 < w'.lists a r → w'.lists a r ≤ T₀ a c)
  suitor a h = case (step.only_received a h) old λ e. rw e new
    where
      old : w.Received a → (c : ℕ) × (0 < T₀ a c) × ((r : ℕ) → 0 < w'.lists c r → T₀ c a ≤ w'.lists c r)
          × ((r : ℕ) → 0 < w'.lists a r → w'.lists a r ≤ T₀ a c)
      old g =
          let (c, on, best, worst) = inv.received a g in (
            c,
            on,
            (λ r hr. let e = now.kept c r hr in let l = best r (was_there now c r hr) in omega arith),
            λ r hr. let e = now.kept a r hr in let l = worst r (was_there now a r hr) in omega arith,
          )

      new : (c : ℕ) × (0 < T₀ q c) × ((r : ℕ) → 0 < w'.lists c r → T₀ c q ≤ w'.lists c r)
          × ((r : ℕ) → 0 < w'.lists q r → w'.lists q r ≤ T₀ q c)
      new =
          let back = inv.below.both p q step.listed in
          let e = inv.below.kept p q step.listed in
          let f = inv.below.kept q p back in (
            p,
            omega arith,
            (λ r hr. let s = now.kept p r hr in let l = step.best r (was_there now p r hr) in omega arith),
            λ r hr. let l = worst_now r hr in omega arith,
          )

  pub Invariant-step : Invariant T₀ w'
  Invariant-step = record {
    below = below_trans now inv.below;
    struck = struck_still;
    listed = λ a b st. (step.stands a b st).0;
    heads = heads_still;
    holder_received = received_still;
    holder_worst = worst_still;
    one_stands = one_still;
    received = suitor;
  }
