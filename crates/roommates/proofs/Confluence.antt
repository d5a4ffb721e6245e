-- No order of proposals changes the lists at the end, nor whether some joint has received and has an empty list.
use mathlib.Core.Path.{◌≡◌, sym, ◌∙◌}
use mathlib.Core.Logic.{◌⊎◌, inl, inr, ◌≢◌}
use Prim.Native.Nat.{ℕ, ◌≤◌, ◌<◌}
use native.Mathlib.Omega.{arith}
use Rattle.base.proofs.Cases.{case, lt_ge}
use Rattle.roommates.proofs.Basics.{Bands, Beaten}
use Rattle.roommates.proofs.Proposals.{Trim, State, Proposal, Invariant, Ended}
use Rattle.roommates.proofs.StrikesCompose.{was_there}
use Rattle.roommates.proofs.InvariantStart.{Fresh}

-- no joint has received and has an empty list
abbrev pub NoneEmpty : State → Type 0
NoneEmpty w = (q : ℕ) → w.Received q → (r : ℕ) × (0 < w.lists q r)

-- all that w₂ lists is on w, and all who received in w did in w₂
pub record Under (w₂ w : State) : Type 0 where
  pub fewer : (a b : ℕ) → 0 < w₂.lists a b → 0 < w.lists a b
  pub more : (a : ℕ) → w.Received a → w₂.Received a

pub Under-start : {T₀ : Bands} {w₂ w : State} → Invariant T₀ w₂ → Fresh T₀ w → Under w₂ w
Under-start {T₀} {w₂} {w} inv₂ fresh =
    record {
      fewer = λ a b h. let e = fresh.whole a b in let l = was_there inv₂.below a b h in omega arith;
      more = λ a h. absurd (fresh.unreceived a h);
    }

module _ {T₀ : Bands} {w₂ w : State} (inv₂ : Invariant T₀ w₂) (ended : Ended w₂) (none : NoneEmpty w₂) (inv : Invariant T₀ w)
    (under : Under w₂ w) where
  -- what both list is in one band
  same_band : (a b : ℕ) → 0 < w₂.lists a b → w₂.lists a b ≡ w.lists a b
  same_band a b h = inv₂.below.kept a b h ∙ sym (inv.below.kept a b (under.fewer a b h))

  -- who finds nobody better than q in w stands at q in w₂, or was struck there by q
  head_stands : (t q : ℕ) → 0 < w.lists t q → ((r : ℕ) → 0 < w.lists t r → w.lists t q ≤ w.lists t r)
      → (w₂.Stands t q) ⊎ (w₂.Received q × Beaten T₀ w₂.lists q t)
  head_stands t q h best = case (inv₂.struck t q (was_there inv.below t q h))
      (λ on. inl (ended t q on λ r hr. rw (same_band t q on, same_band t r hr) (best r (under.fewer t r hr))))
      λ g. case g
      (λ x.
      let (r, hr) = none t x.0 in
      let l = x.1 r hr in
      let m = best r (under.fewer t r hr) in
      let e = same_band t r hr in
      let f = inv.below.kept t q h in
      absurd (omega arith))
      inr

  -- then q has received in w₂ and keeps nobody worse than t
  head_received : (t q : ℕ) → (w₂.Stands t q) ⊎ (w₂.Received q × Beaten T₀ w₂.lists q t) → w₂.Received q
  head_received t q d = case d (λ st. inv₂.holder_received t q st) (λ x. x.0)

  head_worst : (t q : ℕ) → (w₂.Stands t q) ⊎ (w₂.Received q × Beaten T₀ w₂.lists q t) → (r : ℕ) → 0 < w₂.lists q r
      → w₂.lists q r ≤ T₀ q t
  head_worst t q d r h = case d
      (λ st.
      let l = inv₂.holder_worst t q st r h in
      let e = inv₂.below.kept q t (inv₂.below.both t q (inv₂.listed t q st)) in
      omega arith)
      λ x. let l = x.1 r h in omega arith

  -- two of one band that stand at q in w cannot both stand there in w₂, so that the one missing empties their band
  two_heads : (t s q : ℕ) → s ≢ t → w.lists q s ≤ w.lists q t → 0 < w.lists q t → 0 < w.lists q s
      → (w₂.Stands t q) ⊎ (w₂.Received q × Beaten T₀ w₂.lists q t)
      → (w₂.Stands s q) ⊎ (w₂.Received q × Beaten T₀ w₂.lists q s)
      → (r : ℕ) → 0 < w₂.lists q r → w.lists q r < w.lists q t
  two_heads t s q differs near ht hs dt ds r h =
      let e = same_band q r h in
      let et = inv.below.kept q t ht in
      let es = inv.below.kept q s hs in
      case dt
      (λ stt. case ds (λ sts. absurd (differs (inv₂.one_stands t s q stt sts))) λ x. let l = x.1 r h in omega arith)
      λ x. let l = x.1 r h in omega arith

  -- a trim at q that spares what w₂ lists there spares all that w₂ lists
  Under-trim : {T' : Bands} (q k : ℕ) → Trim w.lists T' q k → ((r : ℕ) → 0 < w₂.lists q r → w.lists q r < k)
      → (a b : ℕ) → 0 < w₂.lists a b → 0 < T' a b
  Under-trim q k trim spared a b h = case (trim.gone a b (under.fewer a b h)) (λ y. y)
      λ g. absurd (case g
      (λ x. let l = spared b (rw x.0 at h) in let y : k ≤ w.lists q b = rw x.0 at x.1 in omega arith)
      λ x.
      let l = spared a (rw x.0 at (inv₂.below.both a b h)) in
      let y : k ≤ w.lists q a = rw x.0 at x.1 in
      omega arith)

  pub Under-step : {w' : State} {p q : ℕ} → Proposal w w' p q → Under w₂ w'
  Under-step {w'} {p} {q} step =
      let d = head_stands p q step.listed step.best in
      let back = inv.below.both p q step.listed in
      let e = inv.below.kept q p back in
      record {
        fewer = case step.strikes
            (λ t. Under-trim q _ t.0 λ r h. let l = head_worst p q d r h in let f = same_band q r h in omega arith)
            λ t.
            let (s, differs, st, has, near) = t.1 in
            Under-trim q _ t.0
            (two_heads p s q differs near back has d (head_stands s q (inv.listed s q st) (inv.heads s q st)));
        more = λ a h. case (step.only_received a h) (under.more a) λ i. rw i (head_received p q d);
      }

-- Two states, each under the other, have the same lists.
pub same_lists : {T₀ : Bands} {w₁ w₂ : State} → Invariant T₀ w₁ → Invariant T₀ w₂ → Under w₂ w₁ → Under w₁ w₂
    → (a b : ℕ) → w₁.lists a b ≡ w₂.lists a b
same_lists {T₀} {w₁} {w₂} inv₁ inv₂ u v a b = case (lt_ge 0 (w₁.lists a b))
    (λ h. inv₁.below.kept a b h ∙ sym (inv₂.below.kept a b (v.fewer a b h)))
    λ l. case (lt_ge 0 (w₂.lists a b)) (λ h. let m = u.fewer a b h in absurd (omega arith)) λ m. omega arith

-- A joint that received and is empty in w₁ leaves no end w₂ without one.
pub empty_everywhere : {w₁ w₂ : State} → Under w₂ w₁ → NoneEmpty w₂ → (q : ℕ) → w₁.Received q → ((r : ℕ) → ¬ (0 < w₁.lists q r)) → ⊥
empty_everywhere u none q got empty = let (r, h) = none q (u.more q got) in empty r (u.fewer q r h)
