-- A joint's lines: when there are any, and how long they get.
use mathlib.Core.Path.{◌≡◌, refl}
use mathlib.Core.Bool.{Bool, true, false, not, ◌&&◌, cond}
use mathlib.Core.List.{List, []}
use Prim.Native.Nat.{ℕ, ◌+◌, ◌*◌, ◌≤◌, ◌<◌}
use native.Mathlib.Omega.{arith}
use lib.Dec.{ltb}
use lib.ListN.{length, drop, length-append, length-take}
use borrow.Author.Tests.{eq-eqb, ne_eqb, lt-ltb, le-ltb}
use Rattle.std.specs.Prelude.{Some, None}
use Rattle.base.specs.Below.{joined}
use Rattle.base.proofs.Joined.{joined_length}
use Rattle.base.proofs.SumBelow.{sum_add, sum_bound}
use Rattle.sections.specs.Labels.{label_at}
use Rattle.matching.specs.Matchings.{partner, partner_of, is_alone, pair_count, alone_count}
use Rattle.matching.proofs.MatchingTest.{partner_some, partner_none}
use Rattle.writing.proofs.Decimals.{number_line_short}
use Rattle.labels.specs.Lines.{label_line, pair_line}
use Rattle.labels.proofs.Shown.{label_short, label_line_length, pair_line_length}
use Rattle.listing.specs.Text.{pairs_word, alone_word, pair_part, alone_part, pairing_text}
use Rattle.listing.specs.Claims.{PairListedOnce}

pub pair_listed_once : PairListedOnce
pair_listed_once m a b h few e f =
    (rw (e, ne_eqb b 255 (λ z. omega arith), lt-ltb a b h), rw (f, ne_eqb a 255 (λ z. omega arith), le-ltb b a (omega arith)))

-- joint i's parts, by its partner
module _ (label : ℕ → List ℕ) (m : List ℕ) (i : ℕ) where
  pub pair_listed : {p : ℕ} → Some p ≡ partner_of m i → i < p → pair_part label m i ≡ pair_line (label i) (label p)
  unfolding pair_part
  pair_listed e l = let (is, paired) = partner_some m i e in rw (is, ne_eqb _ _ paired, lt-ltb _ _ (rw is at l)) refl

  pub pair_higher : {p : ℕ} → Some p ≡ partner_of m i → p ≤ i → pair_part label m i ≡ []
  unfolding pair_part
  pair_higher e l = let (is, paired) = partner_some m i e in rw (ne_eqb _ _ paired, le-ltb _ _ (rw is at l)) refl

  pub pair_none : None ≡ partner_of m i → pair_part label m i ≡ []
  unfolding pair_part
  pair_none e = rw (eq-eqb _ _ (partner_none m i e)) refl

  pub alone_listed : None ≡ partner_of m i → alone_part label m i ≡ label_line (label i)
  unfolding alone_part
  alone_listed e = rw (eq-eqb _ _ (partner_none m i e)) refl

  pub alone_paired : {p : ℕ} → Some p ≡ partner_of m i → alone_part label m i ≡ []
  unfolding alone_part
  alone_paired e = let (is, paired) = partner_some m i e in rw (ne_eqb _ _ paired) refl

-- A label is at most 16 bytes, so a joint adds at most 34 bytes to the two lists of lines.
abbrev pub Short : (ℕ → List ℕ) → Type 0
Short label = (i : ℕ) → length (label i) ≤ 16

pub labels_short : (s : List ℕ) (labels : ℕ) → Short (label_at s labels)
labels_short s labels i = let h = length-take 16 (drop (labels + 16 * i) s) in omega arith

module _ (label : ℕ → List ℕ) (short : Short label) (m : List ℕ) where
  label_line_short : (i : ℕ) → length (label_line (label i)) ≤ 17
  label_line_short i =
      let h = short i in
      let s = label_short (label i) in
      omega (arith, label_line_length (label i))

  pair_line_short : (i j : ℕ) → length (pair_line (label i) (label j)) ≤ 34
  pair_line_short i j =
      let h = short i in
      let s = label_short (label i) in
      let l = label_line_short j in
      omega (arith, pair_line_length (label i) (label j))

  parts_short : (i : ℕ) → length (pair_part label m i) + length (alone_part label m i) ≤ 34
  unfolding pair_part alone_part
  parts_short i = go (is_alone m i) (ltb i (partner m i))
    where
      go : (a b : Bool)
          → length (cond (not a && b) (pair_line (label i) (label (partner m i))) []) + length (cond a (label_line (label i)) []) ≤ 34
      go true b = let h = label_line_short i in omega arith
      go false true = let h = pair_line_short i (partner m i) in omega arith
      go false false = omega arith

  pub lines_short : (n : ℕ) → length (joined n (pair_part label m)) + length (joined n (alone_part label m)) ≤ 34 * n
  lines_short n =
      let f : ℕ → ℕ = λ i. length (pair_part label m i) in
      let g : ℕ → ℕ = λ i. length (alone_part label m i) in
      let both = sum_add n f g in
      let most = sum_bound n 34 (λ i. f i + g i) (λ i lt. parts_short i) in
      omega (arith, joined_length n (pair_part label m), joined_length n (alone_part label m))

  -- no pairing's text is longer than 4,372 bytes: 34 for each of 128 joints, and 10 for each of the two counts
  pub pairing_short : length m ≤ 128 → length (pairing_text label m) ≤ 4372
  unfolding pairing_text
  pairing_short h =
      let a = number_line_short pairs_word (pair_count m) in
      let b = number_line_short alone_word (alone_count m) in
      let l = lines_short (length m) in
      simp length-append (omega arith)
