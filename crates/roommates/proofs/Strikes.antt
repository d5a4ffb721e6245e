-- The square after a strike: which places are 0 and which are as before, in range or not; its shape stays.
use mathlib.Core.Path.{◌≡◌, refl, ◌∙◌}
use mathlib.Core.Logic.{◌⊎◌, inl, inr, ◌≢◌}
use mathlib.Core.List.{List, [], ◌∷◌}
use Prim.Native.Nat.{ℕ, zero, suc}
use lib.ListN.{length, get_or, set, length-set}
use lib.Seq.{get_or-set_other}
use Rattle.sheet.specs.Square.{at}
use Rattle.base.proofs.Cases.{case, eq_ne}
use Rattle.roommates.specs.Lists.{Square, row, clear, struck}

zero_set : (l : List ℕ) (i : ℕ) → get_or (set l i 0) i 0 ≡ 0
zero_set [] i = refl
zero_set (x ∷ xs) zero = refl
zero_set (x ∷ xs) (suc i) = zero_set xs i

-- outside the square a row is [], which a store leaves as it is
clear_row : (t : Square) (a b : ℕ) → row (clear t a b) a ≡ set (row t a) b 0
clear_row [] a b = refl
clear_row (x ∷ xs) zero b = refl
clear_row (x ∷ xs) (suc a) b = clear_row xs a b

clear_other_row : (t : Square) (a b c : ℕ) → c ≢ a → row (clear t a b) c ≡ row t c
clear_other_row t a b c h = get_or-set_other t a c (set (row t a) b 0) [] h

pub clear_hit : (t : Square) (a b : ℕ) → at (clear t a b) a b ≡ 0
clear_hit t a b = rw (clear_row t a b) (zero_set (row t a) b)

pub clear_other : (t : Square) (a b c d : ℕ) → ((c ≡ a) × (d ≡ b)) ⊎ (at (clear t a b) c d ≡ at t c d)
clear_other t a b c d =
    case (eq_ne c a)
    (λ e. case (eq_ne d b)
    (λ f. inl (e, f))
    (λ f. inr (rw (e, clear_row t a b) (get_or-set_other (row t a) b d 0 0 f))))
    (λ e. inr (rw (clear_other_row t a b c e) refl))

pub clear_row_length : (t : Square) (a b c : ℕ) → length (row (clear t a b) c) ≡ length (row t c)
clear_row_length t a b c =
    case (eq_ne c a)
    (λ e. rw (e, clear_row t a b) (length-set (row t a) b 0))
    (λ e. rw (clear_other_row t a b c e) refl)

-- the two places of the pair {a, b}
abbrev pub OfPair : ℕ → ℕ → ℕ → ℕ → Type 0
OfPair a b c d = ((c ≡ a) × (d ≡ b)) ⊎ ((c ≡ b) × (d ≡ a))

pub pair_back : {a b c d : ℕ} → OfPair a b c d → OfPair a b d c
pair_back o = case o (λ e. inr (e.1, e.0)) (λ e. inl (e.1, e.0))

struck_hit : (t : Square) (a b : ℕ) → at (struck t a b) a b ≡ 0
struck_hit t a b =
    case (clear_other (clear t a b) b a a b)
    (λ e. rw e.0 (rw e.0 at (clear_hit (clear t a b) b a)))
    (λ e. e ∙ clear_hit t a b)

pub struck_pair : (t : Square) (a b c d : ℕ) → OfPair a b c d → at (struck t a b) c d ≡ 0
struck_pair t a b c d o =
    case o
    (λ e. rw (e.0, e.1) (struck_hit t a b))
    (λ e. rw (e.0, e.1) (clear_hit (clear t a b) b a))

pub struck_other : (t : Square) (a b c d : ℕ) → OfPair a b c d ⊎ (at (struck t a b) c d ≡ at t c d)
struck_other t a b c d =
    case (clear_other (clear t a b) b a c d)
    (λ e. inl (inr e))
    (λ e. case (clear_other t a b c d) (λ f. inl (inl f)) (λ f. inr (e ∙ f)))

pub struck_rows : (t : Square) (a b : ℕ) → length (struck t a b) ≡ length t
struck_rows t a b = length-set (clear t a b) b (set (row (clear t a b) b) a 0) ∙ length-set t a (set (row t a) b 0)

pub struck_row_length : (t : Square) (a b c : ℕ) → length (row (struck t a b) c) ≡ length (row t c)
struck_row_length t a b c = clear_row_length (clear t a b) b a c ∙ clear_row_length t a b c
