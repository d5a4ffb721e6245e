-- In a step p proposes to one joint after the other: each turn is a proposal of the theory.
use mathlib.Core.Path.{◌≡◌, refl, sym, ◌∙◌}
use mathlib.Core.Logic.{◌⊎◌, inl, inr, ◌≢◌}
use mathlib.Core.List.{List}
use Prim.Native.Nat.{ℕ, zero, suc, ◌≤◌, ◌<◌}
use native.Mathlib.Omega.{arith}
use lib.Dec.{eqb}
use lib.ListN.{length, get_or, set, length-set}
use lib.Seq.{get_or-set_same, get_or-set_other}
use borrow.Author.Tests.{eqb-true, eqb-false}
use Rattle.sheet.specs.Square.{at}
use Rattle.base.proofs.Cases.{case, both_ways, eq_ne, below_suc}
use Rattle.roommates.specs.Lists.{Square, row}
use Rattle.roommates.specs.PhaseOne.{proposed, propose_all, receive_all}
use Rattle.roommates.proofs.Proposals.{State, Proposal}
use Rattle.roommates.proofs.StrikesCompose.{was_there}
use Rattle.roommates.proofs.Waiting.{StandsAt}
use Rattle.roommates.proofs.Sound.{Sound, Shrunk, shrunk_refl, shrunk_trans, shrunk_sound}
use Rattle.roommates.proofs.Proposed.{proposed_shrunk, proposed_elsewhere, proposed_strikes}

-- A property of states that each proposal keeps, and that stays where fewer proposals stand.
pub record Kept (Q : State → Type 0) : Type 1 where
  pub by_proposal : (w w' : State) (p q : ℕ) → Q w → Proposal w w' p q → Q w'
  pub by_fewer : (w : State) (Stands : ℕ → ℕ → Type 0) → ((a b : ℕ) → Stands a b → w.Stands a b) → Q w
      → Q (record { lists = w.lists; Received = w.Received; Stands = Stands })

-- the state in a step of p, when the joints below i have been dealt with: of p's proposals only those at them count
abbrev pub mid : ℕ → List ℕ → ℕ → Square → List ℕ → State
mid p reach i t g = record {
  lists = at t;
  Received = λ a. get_or g a 0 ≡ 1;
  Stands = λ a b. StandsAt t reach a b × ((a ≢ p) ⊎ (b < i));
}

pub receive_length : (i : ℕ) (l : List ℕ) (k : ℕ) (g : List ℕ) → length (receive_all i l k g) ≡ length g
unfolding receive_all
receive_length zero l k g = refl
receive_length (suc i) l k g =
    case (both_ways (eqb (get_or l i 0) k))
    (λ b. rw b (length-set (receive_all i l k g) i 1 ∙ receive_length i l k g))
    (λ b. rw b (receive_length i l k g))

-- Where p's proposals have been worked at the joints below i, p's list is as it was from i on: no pair of p with another
-- joint is struck while its proposal at one is worked.
pub record Going (t u : Square) (p i : ℕ) : Type 0 where
  pub shrunk : Shrunk t u
  pub ahead : (j : ℕ) → i ≤ j → at u p j ≡ at t p j

module _ {n : ℕ} {t : Square} (s : Sound n t) (p k : ℕ) (some : 0 < k) (reach : List ℕ) where
  -- p is not on its own list
  other : (i : ℕ) → at t p i ≡ k → p ≢ i
  other i e d = let z : at t p i ≡ 0 = rw (sym d) (s.not_itself p) in omega arith

  pub going : (i : ℕ) → Going t (propose_all i n (row t p) k reach t p) p i
  unfolding propose_all
  going zero = record { shrunk = shrunk_refl s; ahead = λ j h. refl }
  going (suc i) =
      let u = propose_all i n (row t p) k reach t p in
      let m : Going t u p i = going i in
      case (both_ways (eqb (at t p i) k))
      (λ b. rw b record {
        shrunk = shrunk_trans m.shrunk (proposed_shrunk (shrunk_sound s m.shrunk) reach p i);
        ahead = λ j h. proposed_elsewhere (shrunk_sound s m.shrunk) reach p i p j (other i (eqb-true (at t p i) k b)) (omega arith) ∙ m.ahead j (omega arith);
      })
      (λ b. rw b record { shrunk = m.shrunk; ahead = λ j h. m.ahead j (omega arith) })

  -- p's proposal at i, the next joint of its band k, is a proposal of the theory
  module _ (inside : p < n) (reached : get_or reach p 0 ≡ k) (best : (r : ℕ) → 0 < at t p r → k ≤ at t p r) where
    turn : (u : Square) (g : List ℕ) (i : ℕ) → Going t u p i → at t p i ≡ k → i < length g
        → Proposal (mid p reach i u g) (mid p reach (suc i) (proposed n reach u p i) (set g i 1)) p i
    turn u g i m e l =
        let us : Sound n u = shrunk_sound s m.shrunk in
        let v = proposed n reach u p i in
        let now : Shrunk u v = proposed_shrunk us reach p i in
        let here : at u p i ≡ k = m.ahead i (omega arith) ∙ e in
        record {
          listed = omega arith;
          best = λ r h. let f : at u p r ≡ at t p r = m.shrunk.below.kept p r h in omega (arith, best r (was_there m.shrunk.below p r h));
          strikes = case (proposed_strikes us reach p i inside (omega arith))
              (λ h. inl (h.0, λ a st. h.1 a st.0))
              (λ h. inr (h.0, (h.1.0, h.1.1, (h.1.2, inl h.1.1), h.1.3, h.1.4)));
          now_received = get_or-set_same g i 1 0 l;
          still_received = λ a h. case (eq_ne a i) (λ f. rw f (get_or-set_same g i 1 0 l)) (λ f. get_or-set_other g i a 1 0 f ∙ h);
          only_received = λ a h. case (eq_ne a i) inr (λ f. inl (sym (get_or-set_other g i a 1 0 f) ∙ h));
          stands = λ a b h.
              let q : 0 < at v a b = omega arith in
              let f : at v a b ≡ at u a b = now.below.kept a b q in
              let st : StandsAt u reach a b = (h.0.0, omega arith) in (
                q,
                case (eq_ne a p)
                    (λ x. case h.1
                    (λ y. absurd (y x))
                    (λ y. case (below_suc y) (λ z. inr (x, z)) (λ z. inl (st, inr z))))
                    (λ x. inl (st, inl x)),
              );
        }

    pub turns : {Q : State → Type 0} → Kept Q → (g : List ℕ) → length g ≡ 128 → Q (mid p reach 0 t g) → (i : ℕ) → i ≤ n
        → Q (mid p reach i (propose_all i n (row t p) k reach t p) (receive_all i (row t p) k g))
    unfolding propose_all receive_all
    turns kept g l start zero h = start
    turns {Q} kept g l start (suc i) h =
        let u = propose_all i n (row t p) k reach t p in
        let f = receive_all i (row t p) k g in
        let m : Going t u p i = going i in
        let old : Q (mid p reach i u f) = turns kept g l start i (omega arith) in
        let long : i < length f = omega (arith, receive_length i (row t p) k g, s.few_joints) in
        case (both_ways (eqb (at t p i) k))
        (λ b. rw b (kept.by_proposal (mid p reach i u f) (mid p reach (suc i) (proposed n reach u p i) (set f i 1)) p i old
        (turn u f i m (eqb-true (at t p i) k b) long)))
        (λ b. rw b (kept.by_fewer (mid p reach i u f) (mid p reach (suc i) u f).Stands
        (λ a c st. (
          st.0,
          case (eq_ne a p)
              (λ x. case st.1
              (λ y. inl y)
              (λ y. case (below_suc y)
              (λ z.
              let d : at t p i ≢ k = eqb-false (at t p i) k b in
              let e : at u p i ≡ get_or reach p 0 = rw (x, z) at st.0.1 in
              let w : at u p i ≡ at t p i = m.ahead i (omega arith) in
              absurd (omega arith))
              inr))
              inl,
        ))
        old))
