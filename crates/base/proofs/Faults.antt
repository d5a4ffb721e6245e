-- Laws of faults: which is the first, and what none tells.
use mathlib.Core.Path.{◌≡◌, refl, sym, ◌∙◌}
use mathlib.Core.Bool.{Bool, true, false, not}
use mathlib.Core.List.{List, [], ◌∷◌}
use mathlib.Core.Logic.{◌⊎◌, inl, inr, ◌≢◌, ◌↔◌}
use Prim.Native.Nat.{ℕ, zero, suc, ◌+◌, ◌≤◌, ◌<◌}
use native.Mathlib.Numerals.{add-one}
use native.Mathlib.Omega.{arith}
use lib.Dec.{ltb}
use lib.ListN.{length, get_or}
use borrow.Author.Tests.{lt-ltb, le-ltb}
use Rattle.base.specs.Faults.{when, first_fault, fault_below}
use Rattle.base.specs.Claims.{First, FirstAnswered, NoneAnswered}
use Rattle.base.proofs.Cases.{case, eq_ne, lt_ge, below_suc}

-- the first of a list is there, or the list goes on behind it
pub fault_stops : (f : ℕ) (later : List ℕ) → (f ≡ 0 → ⊥) → first_fault (f ∷ later) ≡ f
unfolding first_fault
fault_stops zero later h = absurd (h refl)
fault_stops (suc k) later h = refl

pub fault_passes : (f : ℕ) (later : List ℕ) → f ≡ 0 → first_fault (f ∷ later) ≡ first_fault later
unfolding first_fault
fault_passes zero later h = refl
fault_passes (suc k) later h = absurd (omega arith)

pub no_faults : first_fault [] ≡ 0
unfolding first_fault
no_faults = refl

pub last_fault : (f : ℕ) → first_fault (f ∷ []) ≡ f
unfolding first_fault
last_fault zero = refl
last_fault (suc k) = refl

-- a list without a fault: its first has none, nor have the others
pub first_none : (f : ℕ) (later : List ℕ) → first_fault (f ∷ later) ≡ 0 → (f ≡ 0) × (first_fault later ≡ 0)
unfolding first_fault
first_none zero later h = (refl, h)
first_none (suc k) later h = absurd (omega arith)

-- one without a fault may be left out behind the first
pub fault_left_out : (f x : ℕ) (later : List ℕ) → x ≡ 0 → first_fault (f ∷ x ∷ later) ≡ first_fault (f ∷ later)
fault_left_out zero x later h = fault_passes 0 _ refl ∙ fault_passes x later h ∙ sym (fault_passes 0 later refl)
fault_left_out (suc f) x later h = fault_stops (suc f) _ (λ z. omega arith) ∙ sym (fault_stops (suc f) later (λ z. omega arith))

-- a test with a number
pub when_none : (b : Bool) (k : ℕ) → when b (suc k) ≡ 0 → b ≡ false
when_none true k h = absurd (omega arith)
when_none false k h = refl

pub when_less : (a b k : ℕ) → ((when (ltb a b) k ≡ 0) × (b ≤ a)) ⊎ ((when (ltb a b) k ≡ k) × (a < b))
when_less a b k = case (lt_ge a b) (λ h. inr (rw (lt-ltb a b h) refl, h)) (λ h. inl (rw (le-ltb a b h) refl, h))

pub when_holds : (P : ℕ → Type 0) (b : Bool) (k : ℕ) → P 0 → P k → P (when b k)
when_holds P true k none h = h
when_holds P false k none h = none

pub when_most : (b : Bool) (k m : ℕ) → k ≤ m → when b k ≤ m
when_most b k m h = when_holds (λ i. i ≤ m) b k (omega arith) h

-- a number unless the test holds
pub unless_none : (b : Bool) (k : ℕ) → when (not b) (suc k) ≡ 0 → b ≡ true
unless_none true k h = refl
unless_none false k h = absurd (omega arith)

pub unless_is : (b : Bool) (k : ℕ) → when (not b) (suc k) ≡ suc k → b ≡ false
unless_is true k h = absurd (omega arith)
unless_is false k h = refl

pub unless_other : (b : Bool) (j k : ℕ) → 1 ≤ k → j ≢ k → when (not b) j ≢ k
unless_other true j k some ne e = omega arith
unless_other false j k some ne e = ne e

-- what holds of every number of a list holds of the first; as that none is above m
pub first_holds : (P : ℕ → Type 0) (f : ℕ) (later : List ℕ) → P f → P (first_fault later) → P (first_fault (f ∷ later))
unfolding first_fault
first_holds P zero later h g = g
first_holds P (suc k) later h g = h

pub first_most : (m f : ℕ) (later : List ℕ) → f ≤ m → first_fault later ≤ m → first_fault (f ∷ later) ≤ m
first_most m = first_holds (λ k. k ≤ m)

-- WHICH NUMBER IS ANSWERED
first_is : (faults : List ℕ) (k : ℕ) → first_fault faults ≡ k → 1 ≤ k → First k faults
unfolding first_fault
first_is [] k h l = absurd (omega arith)
first_is (zero ∷ later) k h l =
    let r = first_is later k h l in
    record {
      fault = l;
      place = suc r.place;
      inside = let i = r.inside in omega arith;
      stands = r.stands;
      earlier = λ i g. skip later i g r.earlier;
    }
  where
    skip : {m : ℕ} (rest : List ℕ) (i : ℕ) → i < suc m → ((j : ℕ) → j < m → get_or rest j 0 ≡ 0) → get_or (zero ∷ rest) i 0 ≡ 0
    skip rest zero g e = refl
    skip rest (suc j) g e = e j (omega arith)
first_is (suc f ∷ later) k h l =
    record { fault = l; place = 0; inside = omega arith; stands = h; earlier = λ i g. absurd (omega arith) }

is_first : (faults : List ℕ) (k place : ℕ) → place < length faults → get_or faults place 0 ≡ k → 1 ≤ k
    → ((i : ℕ) → i < place → get_or faults i 0 ≡ 0) → first_fault faults ≡ k
unfolding first_fault
is_first [] k place l h some earlier = absurd (omega arith)
is_first (zero ∷ later) k zero l h some earlier = absurd (omega arith)
is_first (zero ∷ later) k (suc p) l h some earlier = is_first later k p (omega arith) h some (λ i g. earlier (suc i) (omega arith))
is_first (suc f ∷ later) k zero l h some earlier = h
is_first (suc f ∷ later) k (suc p) l h some earlier = let z = earlier 0 (omega arith) in absurd (omega arith)

pub first_answered : FirstAnswered
first_answered faults k = (
  λ h. first_is faults k h.0 h.1,
  λ r. (is_first faults k r.place r.inside r.stands r.fault r.earlier, r.fault),
)

-- PLACE BY PLACE, for a number k that no other place can have: it is answered by the first, or by those behind the first
pub fault_here : (f : ℕ) (later : List ℕ) (k : ℕ) → 1 ≤ k → first_fault later ≢ k → first_fault (f ∷ later) ≡ k ↔ (f ≡ k)
fault_here zero later k some other = (λ h. absurd (other (sym (fault_passes 0 later refl) ∙ h)), λ e. absurd (omega arith))
fault_here (suc f) later k some other = let e = fault_stops (suc f) later (λ z. omega arith) in (λ h. sym e ∙ h, λ h. e ∙ h)

pub fault_behind : (f : ℕ) (later : List ℕ) (k : ℕ) → f ≢ k → first_fault (f ∷ later) ≡ k ↔ ((f ≡ 0) × (first_fault later ≡ k))
fault_behind zero later k other = let e = fault_passes 0 later refl in (λ h. (refl, sym e ∙ h), λ h. e ∙ h.1)
fault_behind (suc f) later k other =
    let e = fault_stops (suc f) later (λ z. omega arith) in
    (λ h. absurd (other (sym e ∙ h)), λ h. absurd (omega (arith, h.0)))

all_none : (faults : List ℕ) → first_fault faults ≡ 0 → (i : ℕ) → get_or faults i 0 ≡ 0
all_none [] h i = refl
all_none (f ∷ later) h zero = (first_none f later h).0
all_none (f ∷ later) h (suc i) = all_none later (first_none f later h).1 i

none_all : (faults : List ℕ) → ((i : ℕ) → get_or faults i 0 ≡ 0) → first_fault faults ≡ 0
none_all [] h = no_faults
none_all (f ∷ later) h = fault_passes f later (h 0) ∙ none_all later (λ i. h (suc i))

pub none_answered : NoneAnswered
none_answered faults = (all_none faults, none_all faults)

-- NUMBER BY NUMBER, in a loop
pub below_zero : (fault : ℕ → ℕ) → fault_below 0 fault ≡ 0
unfolding fault_below
below_zero fault = refl

pub below_next : (j : ℕ) (fault : ℕ → ℕ) → fault_below j fault ≡ 0 → fault j ≡ 0 → fault_below (j + 1) fault ≡ 0
unfolding fault_below
below_next j fault h e = rw add-one (fault_passes _ _ h ∙ last_fault _ ∙ e)

pub below_hit : (n : ℕ) (fault : ℕ → ℕ) (j : ℕ) → j < n → fault_below j fault ≡ 0 → (fault j ≡ 0 → ⊥) → fault j ≡ fault_below n fault
unfolding fault_below
below_hit zero fault j l h f = absurd (omega arith)
below_hit (suc n) fault j l h f =
    case (eq_ne j n)
    (λ e. rw (← e) (sym (fault_passes _ _ h ∙ last_fault _)))
    (λ ne. let e = below_hit n fault j (omega arith) h f in
    e ∙ sym (fault_stops _ _ (λ z. f (e ∙ z))))

pub below_none : (n : ℕ) (fault : ℕ → ℕ) → fault_below n fault ≡ 0 → (j : ℕ) → j < n → fault j ≡ 0
unfolding fault_below
below_none zero fault h j l = absurd (omega arith)
below_none (suc i) fault h j l =
    let r : (fault_below i fault ≡ 0) × (first_fault (fault i ∷ []) ≡ 0) = first_none (fault_below i fault) (fault i ∷ []) h in
    case (below_suc l) (λ e. rw e (sym (last_fault (fault i)) ∙ r.1)) (λ m. below_none i fault r.0 j m)

pub below_most : (m n : ℕ) (fault : ℕ → ℕ) → ((j : ℕ) → fault j ≤ m) → fault_below n fault ≤ m
unfolding fault_below
below_most m zero fault h = omega arith
below_most m (suc i) fault h =
    first_most m _ _ (below_most m i fault h) (rw (last_fault (fault i)) (h i))

-- the faults of fewer numbers, where there is one; and where none is
pub below_stays : (n m : ℕ) (fault : ℕ → ℕ) → (fault_below n fault ≡ 0 → ⊥) → n ≤ m → fault_below m fault ≡ fault_below n fault
unfolding fault_below
below_stays n zero fault h l = let e : n ≡ 0 = omega arith in rw e refl
below_stays n (suc m) fault h l =
    case (eq_ne n (suc m))
    (λ e. rw e refl)
    (λ ne. let e = below_stays n m fault h (omega arith) in
    fault_stops _ _ (λ z. h (sym e ∙ z)) ∙ e)

pub none_below : (n : ℕ) (fault : ℕ → ℕ) → ((i : ℕ) → i < n → fault i ≡ 0) → fault_below n fault ≡ 0
unfolding fault_below
none_below zero fault h = refl
none_below (suc n) fault h = fault_passes _ _ (none_below n fault (λ i l. h i (omega arith))) ∙ last_fault _ ∙ h n (omega arith)

-- faults that agree below n
pub below_same : (n : ℕ) (f g : ℕ → ℕ) → ((i : ℕ) → i < n → f i ≡ g i) → fault_below n f ≡ fault_below n g
unfolding fault_below
below_same zero f g h = refl
below_same (suc n) f g h = rw (below_same n f g (λ i l. h i (omega arith)), h n (omega arith)) refl

-- the number that has the first one
pub below_first : (n : ℕ) (fault : ℕ → ℕ) → (fault_below n fault ≡ 0 → ⊥)
    → (i : ℕ) × ((i < n) × ((fault_below i fault ≡ 0) × (fault_below n fault ≡ fault i)))
unfolding fault_below
below_first zero fault h = absurd (h refl)
below_first (suc n) fault h =
    case (eq_ne (fault_below n fault) 0)
    (λ z. (n, (omega arith, (z, fault_passes _ _ z ∙ last_fault _))))
    (λ ne. let (i, (l, (z, e))) = below_first n fault ne in (i, (omega arith, (z, fault_stops _ _ ne ∙ e))))
