-- Chunks of bytes: what stands in each, in a row and cut off a part.
use mathlib.Core.Path.{◌≡◌, refl, sym, ap, ap₂, subst, ◌∙◌}
use mathlib.Core.List.{List, [], ◌∷◌, ◌++◌}
use Prim.Native.Nat.{ℕ, zero, suc, ◌+◌, ◌*◌, ◌/◌, ◌≤◌, ◌<◌}
use native.Mathlib.Nat.{zero-add, mul-zero, mul-suc}
use native.Mathlib.Omega.{arith}
use lib.ListN.{length, get_or, take, drop, take-append-drop}
use lib.Seq.{take_all, take-take, drop-drop, drop-append-add, get_or-take, get_or-drop}
use Rattle.std.specs.List.{concat}
use Rattle.std.specs.Simd.{first_chunks}
use Rattle.std.proofs.lemmas.List.{take_at, drop-take, ext_get_or, get_or-map, length-map, length-take-le, length-drop}
use Rattle.base.specs.Below.{any_below}
use Rattle.base.proofs.AnyBelow.{any_agree}
use Rattle.base.proofs.Faults.{below_same}
use Rattle.sections.specs.Labels.{label_in, repeats, label_bad}
use Rattle.sections.specs.Entries.{entry, entry_in, entries_in, entries_from, misplaced, entry_fault, entries_fault}
use Rattle.sections.proofs.EntryList.{length_entries, entry_at}

-- each of them has n bytes
abbrev pub Long : ℕ → List (List ℕ) → Type 0
Long n chunks = (i : ℕ) → i < length chunks → length (get_or chunks i []) ≡ n

-- chunk i of a row, and of those that a list begins with
pub chunk_in_row : (n : ℕ) (chunks : List (List ℕ)) → Long n chunks → (i : ℕ) → i < length chunks → take n (drop (n * i) (concat chunks)) ≡ get_or chunks i []
chunk_in_row n [] long i l = absurd (omega arith)
chunk_in_row n (x ∷ xs) long zero l = rw mul-zero (take_at x (concat xs) n (long 0 (omega arith)))
chunk_in_row n (x ∷ xs) long (suc i) l =
    let off : n * suc i ≡ length x + n * i = omega (arith, mul-suc n i, long 0 (omega arith)) in
    rw (off, drop-append-add x (concat xs) (n * i)) (chunk_in_row n xs (λ j k. long (suc j) (omega arith)) i (omega arith))

pub first_chunk_at : (n k : ℕ) (l : List ℕ) (i : ℕ) → i < k → get_or (first_chunks n k l) i [] ≡ take n (drop (n * i) l)
first_chunk_at n zero l i h = absurd (omega arith)
first_chunk_at n (suc k) l zero h = rw mul-zero refl
first_chunk_at n (suc k) l (suc i) h =
    let off : n + n * i ≡ n * suc i = omega (arith, mul-suc n i) in
    first_chunk_at n k (drop n l) i (omega arith) ∙ ap (take n) (drop-drop (n * i) n l ∙ ap (λ (m : ℕ). drop m l) off)

pub first_long : (n k : ℕ) (l : List ℕ) → n * k ≤ length l → Long n (first_chunks n k l)
first_long n zero l h i b = absurd (omega arith)
first_long n (suc k) l h zero b = length-take-le n l (omega (arith, h, mul-suc n k))
first_long n (suc k) l h (suc i) b =
    let rest : n * k ≤ length (drop n l) = omega (arith, h, mul-suc n k, length-drop n l) in first_long n k (drop n l) rest i (omega arith)

-- those make up the list
take_on : (m k : ℕ) (l : List ℕ) → take m l ++ take k (drop m l) ≡ take (m + k) l
take_on m k l =
    ap₂ (λ (a b : List ℕ). a ++ b) (sym (take-take m (m + k) l (omega arith))) (sym (drop-take m k l)) ∙ take-append-drop m (take (m + k) l)

first_in_row : (n k : ℕ) (l : List ℕ) → concat (first_chunks n k l) ≡ take (n * k) l
first_in_row n zero l = rw mul-zero refl
first_in_row n (suc k) l =
    let e : n * suc k ≡ n + n * k = omega (arith, mul-suc n k) in
    rw (e, first_in_row n k (drop n l)) (take_on n (n * k) l)

pub all_in_row : (n k : ℕ) (l : List ℕ) → length l ≡ n * k → concat (first_chunks n k l) ≡ l
all_in_row n k l e = first_in_row n k l ∙ take_all (n * k) l (omega arith)

-- bytes within the first k of a list
pub within_front : (m n k : ℕ) (l : List ℕ) → m + n ≤ k → take n (drop m (take k l)) ≡ take n (drop m l)
within_front zero n k l h = take-take n k l (omega arith)
within_front (suc m) n zero l h = absurd (omega arith)
within_front (suc m) n (suc k) [] h = refl
within_front (suc m) n (suc k) (x ∷ l) h = within_front m n k l (omega arith)

-- LABELS
pub label_in_row : (labels : List (List ℕ)) → Long 16 labels → (i : ℕ) → i < length labels → label_in (concat labels) i ≡ get_or labels i []
label_in_row labels long i l = rw (zero-add (16 * i)) (chunk_in_row 16 labels long i l)

bad_alike : (p q : List ℕ) (i : ℕ) → ((j : ℕ) → j ≤ i → label_in p j ≡ label_in q j) → label_bad p i ≡ label_bad q i
unfolding label_bad repeats
bad_alike p q i h =
    rw (h i (omega arith), any_agree i (repeats p i) (repeats q i) (λ j l. rw (h i (omega arith), h j (omega arith)) refl)) refl

-- the first n of a part, cut off
pub bad_cut : (n : ℕ) (part : List ℕ) → any_below n (label_bad (take (16 * n) part)) ≡ any_below n (label_bad part)
bad_cut n part =
    any_agree n _ _ (λ i l. bad_alike (take (16 * n) part) part i (λ j m. within_front (0 + 16 * j) 16 (16 * n) part (omega arith)))

-- ENTRIES: one is that of its three bytes
entry_taken : (part : List ℕ) (j : ℕ) → entry_in (take 3 (drop (3 * j) part)) 0 ≡ entry_in part j
unfolding entry_in
entry_taken part j =
    let first : get_or (take 3 (drop (3 * j) part)) 0 0 ≡ get_or part (3 * j) 0 = byte 0 (omega arith) ∙ ap (λ (k : ℕ). get_or part k 0) (omega arith) in
    rw (first, byte 1 (omega arith), byte 2 (omega arith)) refl
  where
    byte : (k : ℕ) → k < 3 → get_or (take 3 (drop (3 * j) part)) k 0 ≡ get_or part (3 * j + k) 0
    byte k l = get_or-take 3 (drop (3 * j) part) k 0 l ∙ get_or-drop (3 * j) part k 0

pub entry_in_row : (entries : List (List ℕ)) → Long 3 entries → (j : ℕ) → j < length entries → entry_in (get_or entries j []) 0 ≡ entry_in (concat entries) j
entry_in_row entries long j l = ap (λ (b : List ℕ). entry_in b 0) (sym (chunk_in_row 3 entries long j l)) ∙ entry_taken (concat entries) j

-- the first m of a part, cut off
module _ (m : ℕ) (part : List ℕ) where
  entry_cut : (j : ℕ) → j < m → entry_in (take (3 * m) part) j ≡ entry_in part j
  entry_cut j l =
      sym (entry_taken (take (3 * m) part) j)
      ∙ ap (λ (b : List ℕ). entry_in b 0) (within_front (3 * j) 3 (3 * m) part (omega arith))
      ∙ entry_taken part j

  misplaced_cut : (j : ℕ) → j < m → misplaced (take (3 * m) part) j ≡ misplaced part j
  misplaced_cut zero l = refl
  misplaced_cut (suc j) l = rw (entry_cut (suc j) l, entry_cut j (omega arith)) refl

  fault_cut : (n j : ℕ) → j < m → entry_fault n (take (3 * m) part) j ≡ entry_fault n part j
  unfolding entry_fault
  fault_cut n j l = rw (entry_cut j l, misplaced_cut j l) refl

  -- .. as chunks of the bytes p
  module _ (inside : 3 * m ≤ length part) (p : List ℕ) (cut : p ≡ take (3 * m) part) (entries : List (List ℕ)) (front : entries ≡ first_chunks 3 (length p / 3) p)
      (front_length : length entries ≡ length p / 3) where
    bytes : length p ≡ 3 * m
    bytes = ap length cut ∙ length-take-le (3 * m) part inside

    many : length entries ≡ m
    many = omega (arith, front_length, bytes)

    long : Long 3 entries
    long =
        let fit : 3 * (length p / 3) ≤ length p = omega arith in subst (Long 3) (sym front) (first_long 3 (length p / 3) p fit)

    row : concat entries ≡ take (3 * m) part
    row =
        let whole : length p ≡ 3 * (length p / 3) = omega (arith, bytes) in ap concat front ∙ all_in_row 3 (length p / 3) p whole ∙ cut

    pub faults_are : (n : ℕ) → entries_fault (length entries) n (concat entries) ≡ entries_fault m n part
    faults_are n = rw (many, row) (below_same m (entry_fault n (take (3 * m) part)) (entry_fault n part) (fault_cut n))

    entry_is : (j : ℕ) → j < length entries → entry_in (get_or entries j []) 0 ≡ entry_in part j
    entry_is j l =
        let k : j < m = omega (arith, many) in entry_in_row entries long j l ∙ ap (λ (q : List ℕ). entry_in q j) row ∙ entry_cut j k

    pub entries_are : entries_in entries ≡ entries_from m 0 part
    entries_are =
        let same : length (entries_in entries) ≡ length entries = length-map entries (λ (b : List ℕ). entry_in b 0) in
        ext_get_or (entry 0 0 0) (entries_in entries) (entries_from m 0 part) (same ∙ many ∙ sym (length_entries m 0 part))
        (λ j l.
        let k : j < length entries = omega (arith, same) in
        let i : j < m = omega (arith, many) in
        get_or-map (λ (b : List ℕ). entry_in b 0) entries j [] (entry 0 0 0) k ∙ entry_is j k ∙ sym (entry_at m part j i))
