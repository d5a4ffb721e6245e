-- The words that the function finds are those of the request, and no others.
use mathlib.Core.Path.{◌≡◌, refl, ap, ◌∙◌}
use mathlib.Core.Bool.{true, false}
use mathlib.Core.List.{List, [], ◌∷◌, ◌++◌}
use mathlib.Core.Logic.{◌⊎◌, inl, inr}
use Prim.Native.Nat.{ℕ, zero, suc, ◌<◌}
use native.Mathlib.Omega.{arith}
use lib.ListN.{length, get_or, drop, take-append-drop}
use lib.Seq.{drop-append_seam}
use Rattle.base.proofs.Cases.{case, both_ways}
use Rattle.words.specs.Words.{Words, is_gap, run, words_after, words}
use Rattle.words.specs.Claims.{Parted, nothing, gap, word, WordsRule}
use Rattle.words.proofs.WordLaws.{gap_run, byte_run, gap_after, run_front, words_word}

-- NO BYTE OF A WORD is a gap; behind it a gap comes, or the end
abbrev Unbroken : List ℕ → Type 0
Unbroken w = (i : ℕ) → i < length w → is_gap (get_or w i 0) ≡ false

abbrev Ended : List ℕ → Type 0
Ended s = (s ≡ []) ⊎ (is_gap (get_or s 0 0) ≡ true)

run_ended : (s : List ℕ) → Ended s → run s ≡ []
unfolding run
run_ended [] h = refl
run_ended (b ∷ s) h = case h (λ e. cc) (λ e. gap_run b s e)

run_joined : (w s : List ℕ) → Unbroken w → Ended s → run (w ++ s) ≡ w
run_joined [] s u z = run_ended s z
run_joined (b ∷ w) s u z =
    byte_run b (w ++ s) (u 0 (omega arith)) ∙ ap (λ (t : List ℕ). b ∷ t) (run_joined w s (λ i l. u (suc i) (omega arith)) z)

run_unbroken : (s : List ℕ) → Unbroken (run s)
unfolding run
run_unbroken [] i l = absurd (omega arith)
run_unbroken (b ∷ s) i l = case (both_ways (is_gap b)) (λ e. let z = rw e at l in absurd (omega arith)) (λ e. rw e (first b (run s) i e (rw e at l) (run_unbroken s)))
  where
    first : (b : ℕ) (w : List ℕ) (i : ℕ) → is_gap b ≡ false → i < length (b ∷ w) → Unbroken w → is_gap (get_or (b ∷ w) i 0) ≡ false
    first b w zero e l u = e
    first b w (suc i) e l u = u i (omega arith)

run_stops : (s : List ℕ) → Ended (drop (length (run s)) s)
unfolding run
run_stops [] = inl refl
run_stops (b ∷ s) = case (both_ways (is_gap b)) (λ e. rw e (inr e)) (λ e. rw e (run_stops s))

-- THE WORDS of a parted text
found : {s : List ℕ} {ws : Words} → Parted s ws → words s ≡ ws
unfolding words_after
found nothing = refl
found (gap {b} {s} {ws} e p) = gap_after b false s e ∙ found p
found (word {b} {w} {s} {ws} u z p) =
    words_word b (w ++ s) (u 0 (omega arith)) ∙ rw (run_joined (b ∷ w) s u z, drop-append_seam w s) (ap (λ (t : Words). (b ∷ w) ∷ t) (found p))

-- .. and the text is parted into its words; inside a word, what is behind it into the words after it
front_and_rest : (s : List ℕ) → run s ++ drop (length (run s)) s ≡ s
front_and_rest s = rw (run_front s) at (take-append-drop (length (run s)) s)

parts : (s : List ℕ) → Parted s (words s) × Parted (drop (length (run s)) s) (words_after true s)
unfolding run words_after
parts [] = (nothing, nothing)
parts (b ∷ s) =
    let (outside, inside) = parts s in
    case (both_ways (is_gap b))
    (λ e. rw e (gap e outside, gap e outside))
    (λ e. rw e (rw (front_and_rest s) at (word {w = run s} (rw (byte_run b s e) at (run_unbroken (b ∷ s))) (run_stops s) inside), inside))

pub words_rule : WordsRule
words_rule s ws = (found, λ e. rw (← e) (parts s).0)
