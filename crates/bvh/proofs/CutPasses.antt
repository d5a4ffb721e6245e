-- What a text that is cut short becomes, the whole text becomes too.
use mathlib.Core.Path.{◌≡◌, sym, ap, ◌∙◌}
use mathlib.Core.List.{List, [], ◌∷◌, ◌++◌}
use Prim.Native.Nat.{ℕ}
use lib.ListN.{length}
use Rattle.std.specs.Prelude.{Ok}
use Rattle.hierarchy.specs.Claims.{cut_mark}
use Rattle.hierarchy.proofs.CutShort.{cut_short}
use Rattle.writing.specs.Written.{over}
use Rattle.bvh.specs.Answers.{sheet_in, import_fault, import_of, import_into}
use Rattle.bvh.specs.Claims.{CutPasses}
use Rattle.bvh.proofs.ImportLaws.{sheet_says, sheet_over}
use Rattle.bvh.proofs.ImportKept.{spelt_sheet, import_kept}

-- a sheet that is written lies over the buffer
written : (s out : List ℕ) (size : ℕ) → import_of s (length out) ≡ Ok size → import_into s out ≡ over (sheet_in s) out
written s out size e = sheet_over (import_fault s (length out)) (sheet_in s) out ((sheet_says s (length out) size).0 e).0

pub cut_passes : CutPasses
cut_passes s later out size e =
    let cut = s ++ (cut_mark ∷ []) in
    let (h, (i, (long, fits))) = ((import_kept cut out).sheet size).0 e in
    let spells = cut_short s later h i.spells in
    let whole = ((import_kept (s ++ later) out).sheet size).1 (h, (record { spells = spells; names = i.names }, (long, fits))) in
    let same = spelt_sheet (s ++ later) h spells ∙ sym (spelt_sheet cut h i.spells) in
    (whole, written (s ++ later) out size whole ∙ ap (λ (t : List ℕ). over t out) same ∙ sym (written cut out size e))
