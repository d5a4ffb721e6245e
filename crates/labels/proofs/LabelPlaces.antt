-- A label of the section between two places is the label of the whole sheet.
use mathlib.Core.Path.{◌≡◌, ap, ◌∙◌}
use mathlib.Core.List.{List, []}
use Prim.Native.Nat.{ℕ, ◌+◌, ◌*◌, ◌/◌, ◌≤◌, ◌<◌}
use native.Mathlib.Omega.{arith}
use lib.ListN.{length, get_or, take, drop, length-take, length-drop}
use lib.Seq.{drop-drop}
use Rattle.std.specs.Simd.{first_chunks}
use Rattle.sections.specs.Labels.{label_at}
use Rattle.sections.proofs.Chunks.{first_chunk_at, within_front}

pub section_label : (s : List ℕ) (a size i : ℕ) → 16 * i + 16 ≤ size → a + size ≤ length s
    → let part = take size (drop a s) in get_or (first_chunks 16 (length part / 16) part) i [] ≡ label_at s a i
section_label s a size i h inside =
    let part : List ℕ = take size (drop a s) in
    let below : i < length part / 16 = omega (arith, length-take size (drop a s), length-drop a s) in
    first_chunk_at 16 (length part / 16) part i below
    ∙ within_front (16 * i) 16 size (drop a s) h
    ∙ ap (λ (l : List ℕ). take 16 l) (drop-drop (16 * i) a s)
