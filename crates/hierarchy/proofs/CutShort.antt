-- A text cut short: a hierarchy that is read before the byte at the cut is that of the whole text.
use mathlib.Core.Path.{◌≡◌, refl, ap, ◌∙◌}
use mathlib.Core.Bool.{Bool, true, false}
use mathlib.Core.List.{List, [], ◌∷◌, ◌++◌, append_assoc}
use mathlib.Core.Logic.{◌⊎◌, inl, inr}
use Prim.Native.Nat.{ℕ}
use native.Mathlib.Omega.{arith}
use lib.ListN.{length, length-append}
use Rattle.base.proofs.Cases.{case, both_ways}
use Rattle.words.specs.Words.{Words, is_gap, run, words_after, words}
use Rattle.words.proofs.WordLaws.{byte_run, gap_after}
use Rattle.headings.specs.Keywords.{hierarchy_word, close_word, motion_word}
use Rattle.hierarchy.specs.Spelt.{Inside, nothing, end_site, joint, Roots, single, more, spelt_inside, spelt_roots, Spells}
use Rattle.hierarchy.specs.Claims.{cut_mark, CutShort}

-- THE WORDS BEFORE THE CUT stay, however the text goes on; the last one, which the cut may part, ends in its byte
record Cut (begun : Bool) (s : List ℕ) : Type 0 where
  kept : Words
  part : List ℕ
  cut : words_after begun (s ++ (cut_mark ∷ [])) ≡ kept ++ ((part ++ (cut_mark ∷ [])) ∷ [])
  onward : (later : List ℕ) → (rest : Words) × (words_after begun (s ++ later) ≡ kept ++ rest)

-- a text with no gap is the beginning of a word; with one, its first word is whole
record NoGap (s : List ℕ) : Type 0 where
  longer : (t : List ℕ) → run (s ++ t) ≡ s ++ run t
  inside : (t : List ℕ) → words_after true (s ++ t) ≡ words_after true t

record WithGap (s : List ℕ) : Type 0 where
  same : (t : List ℕ) → run (s ++ t) ≡ run s
  behind : Cut true s

-- behind a gap
gap_cut : (b : ℕ) (begun : Bool) (s : List ℕ) → is_gap b ≡ true → Cut false s → Cut begun (b ∷ s)
gap_cut b begun s e c =
    record {
      kept = c.kept;
      part = c.part;
      cut = gap_after b begun (s ++ (cut_mark ∷ [])) e ∙ c.cut;
      onward = λ later. ((c.onward later).0, gap_after b begun (s ++ later) e ∙ (c.onward later).1);
    }

-- behind a byte of a word: with no gap to come, the cut is in that word; with one, the word has begun before the byte or begins with it
byte_last : (b : ℕ) (s : List ℕ) → is_gap b ≡ false → NoGap s → Cut false (b ∷ s)
unfolding run words_after is_gap
byte_last b s e n =
    record {
      kept = [];
      part = b ∷ s;
      cut = rw (e, n.longer (cut_mark ∷ []), n.inside (cut_mark ∷ []));
      onward = λ later. (words (b ∷ (s ++ later)), refl);
    }

byte_inside : (b : ℕ) (s : List ℕ) → is_gap b ≡ false → Cut true s → Cut true (b ∷ s)
unfolding words_after
byte_inside b s e c =
    record { kept = c.kept; part = c.part; cut = rw e c.cut; onward = λ later. ((c.onward later).0, rw e (c.onward later).1) }

byte_first : (b : ℕ) (s : List ℕ) → is_gap b ≡ false → WithGap s → Cut false (b ∷ s)
unfolding words_after
byte_first b s e g =
    let c = g.behind in
    record {
      kept = (b ∷ run s) ∷ c.kept;
      part = c.part;
      cut = rw (e, byte_run b _ e, g.same (cut_mark ∷ []), c.cut);
      onward = λ later. ((c.onward later).0, rw (e, byte_run b _ e, g.same later, (c.onward later).1));
    }

cut_words : (s : List ℕ) → Cut false s × (NoGap s ⊎ WithGap s)
unfolding run words_after is_gap
cut_words [] =
    (record { kept = []; part = []; cut = refl; onward = λ later. (words later, refl) }, inl (record { longer = λ t. refl; inside = λ t. refl }))
cut_words (b ∷ s) =
    let (outside, inside) = cut_words s in
    case (both_ways (is_gap b))
    (λ e. (gap_cut b false s e outside, inr (record { same = λ t. rw e; behind = gap_cut b true s e outside })))
    (λ e.
    case inside
    (λ n. (byte_last b s e n, inl (record { longer = λ t. rw e (ap (λ (r : List ℕ). b ∷ r) (n.longer t)); inside = λ t. rw e (n.inside t) })))
    (λ g. (byte_first b s e g, inr (record { same = λ t. rw e (ap (λ (r : List ℕ). b ∷ r) (g.same t)); behind = byte_inside b s e g.behind }))))

-- THE LAST of a list, or a where there is none
final : {A : Type 0} → A → List A → A
final a [] = a
final a (b ∷ l) = final b l

final_append : {A : Type 0} (a : A) (k l : List A) → final a (k ++ l) ≡ final (final a k) l
unfolding final
final_append a [] l = refl
final_append a (b ∷ k) l = final_append b k l

-- a hierarchy's is a closing brace
inside_closes : (w : List ℕ) (i : Inside) → final w (spelt_inside i) ≡ close_word
unfolding final spelt_inside
inside_closes w nothing = refl
inside_closes w (end_site o after) = inside_closes close_word after
inside_closes w (joint name o c inside after) = simp final_append (inside_closes _ after)

roots_close : (w : List ℕ) (h : Roots) → final w (spelt_roots h) ≡ close_word
unfolding final spelt_roots
roots_close w (single name o c inside) = simp final_append (inside_closes _ inside)
roots_close w (more name o c inside after) = simp final_append (roots_close (final (final c.count c.each) (spelt_inside inside)) after)

-- the last byte of a word that the cut parts, by which it is neither a closing brace nor MOTION
cut_last : (part w : List ℕ) → part ++ (cut_mark ∷ []) ≡ w → final 0 w ≡ cut_mark
unfolding final
cut_last part w e = rw (← e, final_append 0 part (cut_mark ∷ []))

-- a word of a list is its last one, or stands before that
last_or_before : (kept : Words) (w : List ℕ) (front : Words) (v : List ℕ) (rest : Words) → kept ++ (w ∷ []) ≡ front ++ (v ∷ rest)
    → (w ≡ v) ⊎ ((mid : Words) × (kept ≡ front ++ (v ∷ mid)))
last_or_before [] w [] v rest e = inl (cc)
last_or_before [] w (f ∷ front) v rest e = absurd (omega (arith, simp length-append at (ap length e)))
last_or_before (k ∷ kept) w [] v rest e = inr (kept, cc)
last_or_before (k ∷ kept) w (f ∷ front) v rest e =
    let tails : kept ++ (w ∷ []) ≡ front ++ (v ∷ rest) = cc in
    case (last_or_before kept w front v rest tails) inl (λ m. inr (m.0, cc m.1))

-- so at the cut the text has not ended, and MOTION stands before it
module _ (s : List ℕ) (h : Roots) (c : Cut false s) (p : Spells (s ++ (cut_mark ∷ [])) h) where
  not_ended : p.after ≡ [] → ⊥
  unfolding final
  not_ended e =
      let whole : c.kept ++ ((c.part ++ (cut_mark ∷ [])) ∷ []) ≡ hierarchy_word ∷ (spelt_roots h ++ []) = cc (c.cut, p.whole) in
      let last = simp (final_append, roots_close) at (ap (final []) whole) in
      let z = cut_last c.part close_word last in
      omega arith

  motion_before : (motion : Words) → p.after ≡ motion_word ∷ motion → (mid : Words) × (c.kept ≡ hierarchy_word ∷ (spelt_roots h ++ (motion_word ∷ mid)))
  unfolding final
  motion_before motion e =
      let whole : c.kept ++ ((c.part ++ (cut_mark ∷ [])) ∷ []) ≡ (hierarchy_word ∷ spelt_roots h) ++ (motion_word ∷ motion) = cc (c.cut, p.whole) in
      case (last_or_before c.kept _ (hierarchy_word ∷ spelt_roots h) motion_word motion whole)
      (λ same. absurd (let z = cut_last c.part motion_word same in omega arith))
      (λ m. m)

pub cut_short : CutShort
cut_short s later h p =
    let c = (cut_words s).0 in
    let (rest, on) = c.onward later in
    case p.ended
    (λ e. absurd (not_ended s h c p e))
    (λ m.
    let (mid, before) = motion_before s h c p m.0 m.1 in
    record {
      nests = p.nests;
      after = motion_word ∷ (mid ++ rest);
      whole = on ∙ rw before (simp append_assoc);
      ended = inr (mid ++ rest, refl);
    })
