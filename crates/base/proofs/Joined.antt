-- Laws of `joined`.
use mathlib.Core.Path.{◌≡◌, refl, ap₂, ◌∙◌}
use mathlib.Core.List.{List, [], ◌∷◌, ◌++◌, append_assoc}
use Prim.Native.Nat.{ℕ, zero, suc, ◌+◌, ◌≤◌, ◌<◌}
use native.Mathlib.Numerals.{add-one}
use native.Mathlib.Omega.{arith}
use lib.ListN.{length, get_or, length-append, get_or-append}
use lib.Seq.{get_or_at}
use Rattle.base.specs.Below.{joined, sum_below}
use Rattle.base.proofs.Cases.{case, below_suc}
use Rattle.base.proofs.SumBelow.{sum_next, sum_grows}

-- in a loop
pub joined_zero : (part : ℕ → List ℕ) → joined 0 part ≡ []
unfolding joined
joined_zero part = refl

pub joined_next : (i : ℕ) (part : ℕ → List ℕ) → joined (i + 1) part ≡ joined i part ++ part i
unfolding joined
joined_next i part = rw (add-one i)

pub joined_length : (n : ℕ) (part : ℕ → List ℕ) → length (joined n part) ≡ sum_below n (λ i. length (part i))
unfolding joined sum_below
joined_length zero part = refl
joined_length (suc i) part = length-append (joined i part) (part i) ∙ ap₂ ◌+◌ (joined_length i part) refl

pub joined_same : (n : ℕ) (f g : ℕ → List ℕ) → ((i : ℕ) → i < n → f i ≡ g i) → joined n f ≡ joined n g
unfolding joined
joined_same zero f g h = refl
joined_same (suc i) f g h = ap₂ ◌++◌ (joined_same i f g (λ j l. h j (omega arith))) (h i (omega arith))

-- none of the parts has anything
pub joined_empty : (n : ℕ) (f : ℕ → List ℕ) → ((i : ℕ) → i < n → f i ≡ []) → joined n f ≡ []
unfolding joined
joined_empty zero f none = refl
joined_empty (suc i) f none = rw (joined_empty i f (λ j l. none j (omega arith)), none i (omega arith))

-- f has x in front of what g has, at p, and nothing before that
pub record Front (f g : ℕ → List ℕ) (p : ℕ) (x : List ℕ) : Type 0 where
  pub none_f : (i : ℕ) → i < p → f i ≡ []
  pub none_g : (i : ℕ) → i < p → g i ≡ []
  pub here : f p ≡ x ++ g p
  pub same : (i : ℕ) → p < i → f i ≡ g i

pub joined_front : {f g : ℕ → List ℕ} {p : ℕ} {x : List ℕ} → Front f g p x → (n : ℕ) → p < n → joined n f ≡ x ++ joined n g
unfolding joined
joined_front w zero l = absurd (omega arith)
joined_front {f} {g} {p} {x} w (suc i) l =
    case (below_suc l)
    (λ e. rw (← e, joined_empty p f w.none_f, joined_empty p g w.none_g) w.here)
    (λ m. ap₂ ◌++◌ (joined_front w i m) (w.same i m) ∙ append_assoc x (joined i g) (g i))

-- part i lies within the whole
pub joined_within : (n : ℕ) (part : ℕ → List ℕ) (i : ℕ) → i < n → length (joined i part) + length (part i) ≤ length (joined n part)
joined_within n part i h =
    let f : ℕ → ℕ = λ j. length (part j) in
    let next : sum_below (i + 1) f ≡ sum_below i f + f i = sum_next i f in
    let grows : sum_below (i + 1) f ≤ sum_below n f = sum_grows n (i + 1) f (omega arith) in
    omega (arith, joined_length i part, joined_length n part)

-- one byte for each number below n
pub singles_length : (n : ℕ) (f : ℕ → ℕ) → length (joined n (λ a. f a ∷ [])) ≡ n
unfolding joined
singles_length zero f = refl
singles_length (suc i) f = let rest = singles_length i f in length-append (joined i (λ a. f a ∷ [])) (f i ∷ []) ∙ omega arith

pub single_at : (n : ℕ) (f : ℕ → ℕ) (a d : ℕ) → a < n → get_or (joined n (λ a. f a ∷ [])) a d ≡ f a
unfolding joined
single_at zero f a d lt = absurd (omega arith)
single_at (suc i) f a d lt =
    let m : List ℕ = joined i (λ a. f a ∷ []) in
    let long : length m ≡ i = singles_length i f in
    case (below_suc lt)
    (λ e. rw e (get_or_at m (f i) [] d i long))
    (λ lt. get_or-append m (f i ∷ []) d a (omega arith) ∙ single_at i f a d lt)
