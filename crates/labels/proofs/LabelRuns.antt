-- A label by its rule is what is shown of it, and zero bytes.
use mathlib.Core.Path.{◌≡◌, refl, ap, ap₂}
use mathlib.Core.Bool.{true}
use mathlib.Core.List.{List, [], ◌∷◌}
use Prim.Native.Nat.{ℕ, zero, suc, ◌-◌, ◌≤◌, ◌<◌}
use native.Mathlib.Nat.{sub-zero}
use native.Mathlib.Omega.{arith}
use lib.Dec.{leb}
use lib.ListN.{length, get_or, take, drop, replicate}
use borrow.Author.Tests.{leb-true, eqb-true}
use Rattle.base.proofs.Cases.{case, both_ways}
use Rattle.base.proofs.Tests.{and_true}
use Rattle.sections.specs.Labels.{visible, visible_run, all_zero, label_ok}
use Rattle.labels.specs.Lines.{label_text}
use Rattle.labels.specs.Claims.{IsShown, LabelShown}

zeros : (l : List ℕ) → all_zero l ≡ true → l ≡ replicate (length l) 0
unfolding all_zero
zeros [] h = refl
zeros (b ∷ l) h =
    let r = and_true _ _ h in
    ap₂ ◌∷◌ (eqb-true b 0 r.0) (zeros l r.1)

one_more : {b : ℕ} {l text : List ℕ} → visible b ≡ true → IsShown l text → IsShown (b ∷ l) (b ∷ text)
one_more {b} {l} {text} v s =
    let same : suc (length l) - suc (length text) ≡ length l - length text = omega arith in
    record { seen = seen; padded = rw same (ap (λ (x : List ℕ). b ∷ x) s.padded) }
  where
    seen : (i : ℕ) → i < length (b ∷ text) → (33 ≤ get_or (b ∷ text) i 0) × (get_or (b ∷ text) i 0 ≤ 126)
    seen zero h = let r = and_true _ _ v in (leb-true 33 b r.0, leb-true b 126 r.1)
    seen (suc i) h = s.seen i (omega arith)

none_shown : (l : List ℕ) → all_zero l ≡ true → IsShown l []
none_shown l h = record { seen = λ i l. absurd (omega arith); padded = rw sub-zero (zeros l h) }

run_shown : (l : List ℕ) → all_zero (drop (visible_run l) l) ≡ true → IsShown l (take (visible_run l) l)
unfolding visible_run
run_shown [] h = none_shown [] h
run_shown (b ∷ l) h =
    case (both_ways (visible b))
    (λ e. rw e (one_more e (run_shown l (rw e at h))))
    (λ e. rw e (none_shown (b ∷ l) (rw e at h)))

pub label_shown : LabelShown
unfolding label_ok label_text
label_shown label h = run_shown label (and_true (leb 1 (visible_run label)) _ h).1
