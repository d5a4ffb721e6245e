-- The sheet lies within the buffer that it is written into: what a caller needs to lend it.
use mathlib.Core.Path.{◌≡◌, sym, ap, ◌∙◌}
use mathlib.Core.List.{List}
use Prim.Native.Nat.{ℕ, ◌≤◌}
use native.Mathlib.Omega.{arith}
use lib.ListN.{length, drop, length-append}
use Rattle.std.specs.Prelude.{Result, Ok}
use Rattle.refusals.specs.declared.Refusal.{Refusal}
use Rattle.bvh.specs.Answers.{import_fault, import_of, import_into, sheet_in}
use Rattle.bvh.proofs.ImportLaws.{sheet_says, sheet_over}

pub sheet_within : (s out out' : List ℕ) (size : ℕ) {r : Result ℕ Refusal} → r ≡ import_of s (length out) → out' ≡ import_into s out → r ≡ Ok size
    → size ≤ length out'
sheet_within s out out' size said left e =
    let (none, long) = (sheet_says s (length out) size).0 (sym said ∙ e) in
    let into = ap {B = ℕ} length (left ∙ sheet_over (import_fault s (length out)) (sheet_in s) out none) in
    let whole = length-append (sheet_in s) (drop (length (sheet_in s)) out) in
    omega arith
