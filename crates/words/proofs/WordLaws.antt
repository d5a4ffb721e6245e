-- Laws of words, in the steps of the loops that find them.
use mathlib.Core.Path.{◌≡◌, refl, ap, ◌∙◌}
use mathlib.Core.Bool.{Bool, true, false}
use mathlib.Core.List.{List, [], ◌∷◌}
use Prim.Native.Nat.{ℕ, zero, suc, ◌-◌, ◌≤◌, ◌<◌}
use native.Mathlib.Omega.{arith}
use lib.ListN.{length, get_or, take, drop, take-append-drop, length-drop}
use lib.Seq.{drop-cons}
use Rattle.std.proofs.lemmas.List.{take_all, nil_from_length}
use Rattle.std.specs.Prelude.{◌≢◌}
use Rattle.base.proofs.Cases.{case, both_ways}
use Rattle.words.specs.Words.{is_gap, run, words_after, words}
use Rattle.words.specs.Met.{NextWord}

-- A TEXT'S FIRST BYTE is a gap, or one of a word
pub gap_run : (b : ℕ) (s : List ℕ) → is_gap b ≡ true → run (b ∷ s) ≡ []
unfolding run
gap_run b s e = rw e

pub byte_run : (b : ℕ) (s : List ℕ) → is_gap b ≡ false → run (b ∷ s) ≡ b ∷ run s
unfolding run
byte_run b s e = rw e

pub gap_after : (b : ℕ) (begun : Bool) (s : List ℕ) → is_gap b ≡ true → words_after begun (b ∷ s) ≡ words s
unfolding words_after
gap_after b begun s e = rw e

byte_begins : (b : ℕ) (s : List ℕ) → is_gap b ≡ false → words (b ∷ s) ≡ run (b ∷ s) ∷ words_after true s
unfolding words_after
byte_begins b s e = rw e

-- a run is the text's beginning, and behind it come the words after it
pub run_front : (s : List ℕ) → take (length (run s)) s ≡ run s
unfolding run
run_front [] = refl
run_front (b ∷ s) = case (both_ways (is_gap b)) (λ e. rw e) (λ e. rw e (ap (λ (t : List ℕ). b ∷ t) (run_front s)))

after_run : (s : List ℕ) → words_after true s ≡ words (drop (length (run s)) s)
unfolding run words_after
after_run [] = refl
after_run (b ∷ s) = case (both_ways (is_gap b)) (λ e. rw (e, e)) (λ e. rw e (after_run s))

pub words_word : (b : ℕ) (s : List ℕ) → is_gap b ≡ false → words (b ∷ s) ≡ run (b ∷ s) ∷ words (drop (length (run (b ∷ s))) (b ∷ s))
words_word b s e = byte_begins b s e ∙ ap (λ (ws : List (List ℕ)). run (b ∷ s) ∷ ws) (rw (byte_run b s e) (after_run s))

-- a text has no more words than bytes
pub words_few : (begun : Bool) (s : List ℕ) → length (words_after begun s) ≤ length s
unfolding words_after
words_few begun [] = omega arith
words_few begun (b ∷ s) =
    let inside = words_few true s in
    let outside = words_few false s in
    case (both_ways (is_gap b)) (λ e. rw e (omega arith)) (λ e. case (both_ways begun) (λ y. rw (e, y) (omega arith)) (λ n. rw (e, n) (omega arith)))

-- THE NEXT WORD: gaps in front part no words
pub words_behind : (n : ℕ) (s : List ℕ) → n ≤ length s → ((i : ℕ) → i < n → is_gap (get_or s i 0) ≡ true) → words s ≡ words (drop n s)
words_behind zero s h g = refl
words_behind (suc n) [] h g = absurd (omega arith)
words_behind (suc n) (b ∷ s) h g = gap_after b false s (g 0 (omega arith)) ∙ words_behind n s (omega arith) (λ i l. g (suc i) (omega arith))

-- a word goes on up to a gap or the end
pub run_length : (n : ℕ) (s : List ℕ) → n ≤ length s → ((i : ℕ) → i < n → is_gap (get_or s i 0) ≡ false)
    → (n < length s → is_gap (get_or s n 0) ≡ true) → n ≡ length (run s)
unfolding run
run_length zero [] h g e = refl
run_length zero (b ∷ s) h g e = rw (e (omega arith)) refl
run_length (suc n) [] h g e = omega arith
run_length (suc n) (b ∷ s) h g e =
    rw (g 0 (omega arith)) (ap suc (run_length n s (omega arith) (λ i l. g (suc i) (omega arith)) (λ l. e (omega arith))))

-- what is found behind n gaps, in what follows them
pub rest_is : (s : List ℕ) (n : ℕ) → take (length s - n) (drop n s) ≡ drop n s
rest_is s n = let e = length-drop n s in take_all _ (drop n s) (omega arith)

pub run_within : (s : List ℕ) → length (run s) ≤ length s
unfolding run
run_within [] = omega arith
run_within (b ∷ s) = let h = run_within s in case (both_ways (is_gap b)) (λ e. rw e (omega arith)) (λ e. rw e (omega arith))

pub none_left : (s : List ℕ) {t : List ℕ} (n : ℕ) → words s ≡ words (drop n s) → t ≡ drop n s → length t ≡ 0 → words s ≡ []
unfolding words_after
none_left s {t} n same e z = same ∙ rw (← e, nil_from_length t z)

pub next_is : (s : List ℕ) {t word rest : List ℕ} (n k : ℕ) → words s ≡ words (drop n s) → t ≡ drop n s → length t ≢ 0
    → (n < length s → is_gap (get_or s n 0) ≡ false) → k ≡ length (run t) → word ≡ take k t → rest ≡ drop k t → NextWord s word rest
next_is s {t} {word} {rest} n k same e some byte size w r =
    let l = length-drop n s in
    let long = ap length e in
    let h : n < length s = omega arith in
    let cons = e ∙ drop-cons s n 0 h in
    let front : word ≡ run t = rw (w, size) (run_front t) in
    record {
      gaps = take n s;
      whole = rw (w, r, take-append-drop k t, e) (take-append-drop n s);
      some = rw (front, cons, byte_run _ (drop (suc n) s) (byte h)) (omega arith);
      ahead = same ∙ rw (front, r, size, ← e, cons) (words_word _ (drop (suc n) s) (byte h));
    }
