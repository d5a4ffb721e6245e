-- An injection of a set of numbers below n into itself is onto. The set need not be decidable: the orbit of a comes back to a.
use mathlib.Core.Path.{◌≡◌, sym, ◌∙◌}
use mathlib.Core.Bool.{cond}
use mathlib.Core.Logic.{◌⊎◌, inl, inr, ◌≢◌}
use Prim.Native.Nat.{ℕ, zero, suc, ◌≤◌, ◌<◌}
use native.Mathlib.Omega.{arith}
use lib.Dec.{eqb}
use borrow.Author.Tests.{eq-eqb, ne_eqb}
use Rattle.base.proofs.Cases.{case, eq_ne}

-- an index below k with the value v, or none
seek : (k : ℕ) (f : ℕ → ℕ) (v : ℕ) → ((i : ℕ) × (i < k) × (f i ≡ v)) ⊎ ((i : ℕ) → i < k → f i ≢ v)
seek zero f v = inr (λ i l. omega arith)
seek (suc k) f v =
    case (eq_ne (f k) v)
    (λ e. inl (k, omega arith, e))
    (λ ne. case (seek k f v)
    (λ s. inl (s.0, omega arith, s.2))
    (λ no-k. inr (λ i l e. case (eq_ne i k) (λ ik. ne (rw (← ik) e)) (λ ik. no-k i (omega arith) e))))

-- f with the value v in place of m
instead : (ℕ → ℕ) → ℕ → ℕ → ℕ → ℕ
instead f m v i = cond (eqb (f i) m) v (f i)

instead_hit : (f : ℕ → ℕ) (m v i : ℕ) → f i ≡ m → instead f m v i ≡ v
unfolding instead
instead_hit f m v i e = rw (eq-eqb _ _ e)

instead_miss : (f : ℕ → ℕ) (m v i : ℕ) → f i ≢ m → instead f m v i ≡ f i
unfolding instead
instead_miss f m v i ne = rw (ne_eqb _ _ ne)

abbrev Agree : ℕ → (ℕ → ℕ) → Type 0
Agree n f = (i : ℕ) × (j : ℕ) × (i < j) × (j ≤ n) × (f i ≡ f j)

module _ (m : ℕ) (f : ℕ → ℕ) (small : (i : ℕ) → i ≤ suc m → f i < suc m) (fresh : (i : ℕ) → i < suc m → f i ≢ f (suc m)) where
  -- with the last value in place of m the first m + 1 values are below m ..
  instead_small : (i : ℕ) → i ≤ m → instead f m (f (suc m)) i < m
  instead_small i l =
      let si : f i < suc m = small i (omega arith) in
      let sm : f (suc m) < suc m = small (suc m) (omega arith) in
      let ne : f i ≢ f (suc m) = fresh i (omega arith) in
      case (eq_ne (f i) m)
      (λ e. let h = instead_hit f m (f (suc m)) i e in omega arith)
      (λ d. let h = instead_miss f m (f (suc m)) i d in omega arith)

  -- .. and where two of them agree, two did before
  instead_agree : (i j : ℕ) → i ≤ m → j ≤ m → instead f m (f (suc m)) i ≡ instead f m (f (suc m)) j → f i ≡ f j
  instead_agree i j li lj e =
      let ni : f i ≢ f (suc m) = fresh i (omega arith) in
      let nj : f j ≢ f (suc m) = fresh j (omega arith) in
      case (eq_ne (f i) m)
      (λ ei. let hi = instead_hit f m (f (suc m)) i ei in
      case (eq_ne (f j) m)
      (λ ej. ei ∙ sym ej)
      (λ dj. let hj = instead_miss f m (f (suc m)) j dj in omega arith))
      (λ di. let hi = instead_miss f m (f (suc m)) i di in
      case (eq_ne (f j) m)
      (λ ej. let hj = instead_hit f m (f (suc m)) j ej in omega arith)
      (λ dj. let hj = instead_miss f m (f (suc m)) j dj in omega arith))

-- among n + 1 numbers below n two agree
two_agree : (n : ℕ) (f : ℕ → ℕ) → ((i : ℕ) → i ≤ n → f i < n) → Agree n f
two_agree zero f small = let h : f 0 < 0 = small 0 (omega arith) in absurd (omega arith)
two_agree (suc m) f small =
    case (seek (suc m) f (f (suc m)))
    (λ s. (s.0, suc m, s.1, omega arith, s.2))
    (λ fresh. let t = two_agree m (instead f m (f (suc m))) (instead_small m f small fresh) in
    (t.0, t.1, t.2, omega arith, instead_agree m f small fresh t.0 t.1 (omega arith) t.3 t.4))

orbit : (ℕ → ℕ) → ℕ → ℕ → ℕ
orbit h a zero = a
orbit h a (suc k) = h (orbit h a k)

module _ (A : ℕ → Type 0) (h : ℕ → ℕ) (into : (a : ℕ) → A a → A (h a)) where
  orbit_in : (a : ℕ) → A a → (k : ℕ) → A (orbit h a k)
  unfolding orbit
  orbit_in a Aa zero = Aa
  orbit_in a Aa (suc k) = into _ (orbit_in a Aa k)

  -- two places of the orbit that agree: take the earlier back to the start
  orbit_back : ((a b : ℕ) → A a → A b → h a ≡ h b → a ≡ b)
      → (a : ℕ) → A a → (i j : ℕ) → i < j → orbit h a i ≡ orbit h a j → (d : ℕ) × (h (orbit h a d) ≡ a)
  unfolding orbit
  orbit_back inj a Aa i zero l e = absurd (omega arith)
  orbit_back inj a Aa zero (suc j) l e = (j, sym e)
  orbit_back inj a Aa (suc i) (suc j) l e = orbit_back inj a Aa i j (omega arith) (inj _ _ (orbit_in a Aa i) (orbit_in a Aa j) e)

pub pigeonhole : (n : ℕ) (A : ℕ → Type 0) (h : ℕ → ℕ)
    → ((a : ℕ) → A a → a < n) → ((a : ℕ) → A a → A (h a)) → ((a b : ℕ) → A a → A b → h a ≡ h b → a ≡ b)
    → (a : ℕ) → A a → (b : ℕ) × (A b × (h b ≡ a))
pigeonhole n A h below into inj a Aa =
    let t = two_agree n (orbit h a) (λ i l. below _ (orbit_in A h into a Aa i)) in
    let s = orbit_back A h into inj a Aa t.0 t.1 t.2 t.4 in
    (orbit h a s.0, (orbit_in A h into a Aa s.0, s.1))
