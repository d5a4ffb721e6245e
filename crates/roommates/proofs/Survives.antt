-- Lemmas 2.1 and 3.5: a proposal strikes no pair of a matching that no pair blocks.
use mathlib.Core.Path.{◌≡◌, sym, ◌∙◌}
use Prim.Native.Nat.{ℕ, suc, ◌≤◌, ◌<◌}
use native.Mathlib.Omega.{arith}
use Rattle.base.proofs.Cases.{case, lt_ge}
use Rattle.roommates.proofs.Basics.{Bands, Below, Stable, On}
use Rattle.roommates.proofs.Proposals.{State, Proposal, Invariant}
use Rattle.roommates.proofs.StrikesCompose.{was_there, below_trans}
use Rattle.roommates.proofs.OnTrim.{On-trim}

module _ {P T : Bands} {M : ℕ → ℕ} (stable : Stable P M) (s : Below T P) (on : On P T M) where
  -- Let q be in the best band of t's list, and t no worse for q than q's partner: then t is q's partner, else the two block.
  pub partner_of_head : (t q : ℕ) → 0 < T t q → ((r : ℕ) → 0 < T t r → T t q ≤ T t r) → 0 < P q (M q) → T q t ≤ T q (M q) → M q ≡ t
  partner_of_head t q h best paired near =
      let pt : 0 < P t q = was_there s t q h in
      case (stable.unblocked t q pt)
      (λ e. let m : 0 < P t (M t) = rw e pt in rw e at (stable.back t m))
      λ g. absurd (case g
      (λ x. let m = on t x.0 in
      let l = best (M t) m in
      let e = s.kept t (M t) m in
      let f = s.kept t q h in
      let y = x.1 in
      omega arith)
      λ x. let m = on q paired in
      let e = s.kept q (M q) m in
      let f = s.kept q t (s.both t q h) in
      let y = x.1 in
      omega arith)

module _ {T₀ P : Bands} {M : ℕ → ℕ} {w w' : State} {p q : ℕ} (bothP : (a b : ℕ) → 0 < P a b → 0 < P b a) (stable : Stable P M)
    (under : Below T₀ P) (on : On P w.lists M) (inv : Invariant T₀ w) (step : Proposal w w' p q) where
  s : Below w.lists P
  s = below_trans inv.below under

  -- were q's partner struck, q would block with p or with the other that stands at q
  pub Survives : On P w'.lists M
  Survives = case step.strikes
      (λ t. On-trim bothP stable on t.0 λ paired. case (lt_ge (w.lists q (M q)) (suc (w.lists q p))) (λ l. l)
      λ far.
      let e : M q ≡ p = partner_of_head stable s on p q step.listed step.best paired (omega arith) in
      let f : w.lists q (M q) ≡ w.lists q p = rw e in
      absurd (omega arith))
      λ t. On-trim bothP stable on t.0 λ paired. case (lt_ge (w.lists q (M q)) (w.lists q p)) (λ l. l)
      λ far.
      let (other, differs, st, has, near) = t.1 in
      let e : M q ≡ p = partner_of_head stable s on p q step.listed step.best paired far in
      let f : M q ≡ other =
      partner_of_head stable s on other q (inv.listed other q st) (inv.heads other q st) paired (omega arith) in
      absurd (differs (sym f ∙ e))
