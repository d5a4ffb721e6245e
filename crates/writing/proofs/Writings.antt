-- Laws of writing: what is written piece by piece is the whole.
use mathlib.Core.Path.{◌≡◌, refl, ap, sym, ◌∙◌}
use mathlib.Core.List.{List, [], ◌∷◌, ◌++◌}
use Prim.Native.Nat.{ℕ, suc, ◌+◌, ◌≤◌}
use native.Mathlib.Nat.{add-zero, add-suc, suc-add}
use native.Mathlib.Omega.{arith}
use lib.ListN.{length, set, take, drop, length-append}
use lib.Seq.{drop-drop, sets, sets-eq, length-sets}
use Rattle.std.proofs.lemmas.List.{append_assoc}
use Rattle.base.specs.Below.{joined}
use Rattle.base.proofs.Joined.{joined_zero, joined_next}
use Rattle.writing.specs.Written.{written, Wrote, over}
use Rattle.writing.specs.Claims.{WritesInPlace}

-- a then b behind it is a ++ b
written_append : (a b l : List ℕ) (i : ℕ) → written l i (a ++ b) ≡ written (written l i a) (i + length a) b
unfolding written
written_append [] b l i = rw add-zero
written_append (x ∷ a) b l i = rw (add-suc, ← suc-add) (written_append a b (set l i x) (suc i))

written_sets : (bytes l : List ℕ) (i : ℕ) → written l i bytes ≡ sets l i bytes
unfolding written
written_sets [] l i = refl
written_sets (x ∷ bytes) l i = written_sets bytes (set l i x) (suc i)

-- PIECES
pub nothing_wrote : (l : List ℕ) (i : ℕ) → Wrote l i [] l i
unfolding written
nothing_wrote l i = record { buffer = refl; behind = omega arith }

pub one_wrote : (l : List ℕ) (i b : ℕ) → Wrote l i (b ∷ []) (set l i b) (i + 1)
unfolding written
one_wrote l i b = record { buffer = refl; behind = omega arith }

pub copied_wrote : (l bytes : List ℕ) (i : ℕ) → i + length bytes ≤ length l
    → Wrote l i bytes (take i l ++ (bytes ++ drop (length bytes) (drop i l))) (i + length bytes)
copied_wrote l bytes i h = record {
  buffer = rw (drop-drop (length bytes) i l) (sym (written_sets bytes l i ∙ sets-eq bytes l i h ∙ append_assoc (take i l) bytes _));
  behind = refl;
}

pub wrote_append : {l l₁ l₂ a b : List ℕ} {i i₁ i₂ : ℕ} → Wrote l i a l₁ i₁ → Wrote l₁ i₁ b l₂ i₂ → Wrote l i (a ++ b) l₂ i₂
wrote_append {l} {l₁} {l₂} {a} {b} {i} u v =
    record { buffer = rw (written_append, ← u.behind, ← u.buffer) v.buffer; behind = rw length-append (omega arith) }

-- IN A LOOP: the parts of 0, 1, 2 and so on
pub joined_none : (l : List ℕ) (j : ℕ) (part : ℕ → List ℕ) → Wrote l j (joined 0 part) l j
joined_none l j part = rw (joined_zero part) (nothing_wrote l j)

pub joined_wrote :
    {l l₁ l₂ : List ℕ} {j j₁ j₂ : ℕ} (i : ℕ) (part : ℕ → List ℕ) → Wrote l j (joined i part) l₁ j₁ → Wrote l₁ j₁ (part i) l₂ j₂
    → Wrote l j (joined (i + 1) part) l₂ j₂
joined_wrote i part u v = rw (joined_next i part) (wrote_append u v)

-- THE BUFFER
pub wrote_length : {l l₁ bytes : List ℕ} {i i₁ : ℕ} → Wrote l i bytes l₁ i₁ → length l₁ ≡ length l
wrote_length {l} {l₁} {bytes} {i} u = ap length (u.buffer ∙ written_sets bytes l i) ∙ length-sets l i bytes

pub writes_in_place : WritesInPlace
writes_in_place l l₁ bytes i i₁ u h =
    let e : l₁ ≡ take i l ++ bytes ++ drop (i + length bytes) l = u.buffer ∙ written_sets bytes l i ∙ sets-eq bytes l i h in
    (rw u.behind e, wrote_length u)

-- a text that fits, written from the start
pub front_wrote : {l l₁ : List ℕ} {r : ℕ} (text : List ℕ) → length text ≤ length l → Wrote l 0 text l₁ r → (r ≡ length text) × (l₁ ≡ over text l)
front_wrote {l} {l₁} {r} text h u =
    let e : r ≡ length text = omega arith in
    (e, rw e at (writes_in_place l l₁ text 0 r u (omega arith)).0)
