-- Which proposals stand and who waits, as facts.
use mathlib.Core.Path.{◌≡◌, refl}
use mathlib.Core.Bool.{true, false, not}
use mathlib.Core.Logic.{◌≢◌}
use mathlib.Core.List.{List}
use Prim.Native.Nat.{ℕ, ◌≤◌, ◌<◌}
use native.Mathlib.Omega.{arith}
use lib.Dec.{eqb, leb}
use lib.ListN.{get_or}
use borrow.Author.Tests.{leb-true, le-leb, eqb-true, eq-eqb, not-true, not-false}
use Rattle.sheet.specs.Square.{at}
use Rattle.base.proofs.Cases.{case, eq_ne}
use Rattle.base.proofs.Tests.{and_true, never}
use Rattle.roommates.specs.Lists.{Square, list_length}
use Rattle.roommates.specs.PhaseOne.{stands, any_stands, list_waits, standing_at}
use Rattle.base.proofs.CountBelow.{two_counted, count_two, Two}
use Rattle.base.proofs.AnyBelow.{any_true, any_none}
use Rattle.roommates.proofs.Rows.{some_listed, listed_some}

pub stands_facts : (k b : ℕ) → stands k b ≡ true → (0 < k) × (b ≡ k)
stands_facts k b h = let r : (leb 1 k ≡ true) × (eqb b k ≡ true) = and_true (leb 1 k) (eqb b k) h in (leb-true 1 k r.0, eqb-true b k r.1)

pub facts_stands : (k b : ℕ) → 0 < k → b ≡ k → stands k b ≡ true
facts_stands k b h e = rw (le-leb 1 k h, eq-eqb b k e) refl

module _ (n k : ℕ) (l : List ℕ) where
  pub waits_listed : list_waits n k l ≡ true → (j : ℕ) × (j < n) × (0 < get_or l j 0)
  unfolding list_waits
  waits_listed h = some_listed n l (leb-true 1 (list_length n l) (and_true (leb 1 (list_length n l)) (not (any_stands n k l)) h).0)

  pub waits_standing : list_waits n k l ≡ true → (j : ℕ) → j < n → 0 < k → get_or l j 0 ≢ k
  unfolding list_waits
  waits_standing h j m p e =
      let s : any_stands n k l ≡ false = not-true _ (and_true (leb 1 (list_length n l)) (not (any_stands n k l)) h).1 in
      never _ (facts_stands k (get_or l j 0) p e) (any_none n _ s j m)

  pub not_waiting : list_waits n k l ≡ false → (j : ℕ) → j < n → 0 < get_or l j 0 → (i : ℕ) × (i < n) × (0 < k) × (get_or l i 0 ≡ k)
  unfolding list_waits
  not_waiting h j m p =
      let s : any_stands n k l ≡ true = not-false _ (rw (le-leb 1 (list_length n l) (listed_some n l j m p)) at h) in
      let r : (i : ℕ) × (i < n) × (stands k (get_or l i 0) ≡ true) = any_true n _ s in
      let f : (0 < k) × (get_or l r.0 0 ≡ k) = stands_facts k (get_or l r.0 0) r.2 in
      (r.0, r.1, f.0, f.1)

-- p's proposal stands at q
abbrev pub StandsAt : Square → List ℕ → ℕ → ℕ → Type 0
StandsAt t reach p q = (0 < get_or reach p 0) × (at t p q ≡ get_or reach p 0)

module _ (n : ℕ) (t : Square) (reach : List ℕ) (q : ℕ) where
  pub two_stand : 2 ≤ standing_at n t reach q → (i : ℕ) × (j : ℕ) × (i ≢ j) × StandsAt t reach i q × StandsAt t reach j q
  two_stand h =
      let r : Two n (λ i. stands (get_or reach i 0) (at t i q)) = two_counted n _ h in
      (r.0, r.1, r.4, stands_facts (get_or reach r.0 0) (at t r.0 q) r.5, stands_facts (get_or reach r.1 0) (at t r.1 q) r.6)

  pub one_stands : standing_at n t reach q < 2 → (i j : ℕ) → i < n → j < n → StandsAt t reach i q → StandsAt t reach j q → i ≡ j
  one_stands h i j l m a b =
      case (eq_ne i j)
      (λ e. e)
      (λ e.
      let c : 2 ≤ standing_at n t reach q
      = count_two n _ i j l m e (facts_stands (get_or reach i 0) (at t i q) a.0 a.1) (facts_stands (get_or reach j 0) (at t j q) b.0 b.1) in
      omega arith)
