-- The sizes of an accepted sheet.
use Prim.Native.Nat.{◌*◌, ◌-◌, ◌≤◌}
use native.Mathlib.Nat.{mul-le-mul}
use native.Mathlib.Omega.{arith}
use lib.ListN.{length-drop}
use Rattle.base.proofs.Cases.{case, eq_ne}
use Rattle.sections.proofs.Ranks.{entries_few}
use Rattle.parents.proofs.SectionRule.{third_most}
use Rattle.sheet.specs.Format.{joints, rank_count, rankings_part, rank_end, third}
use Rattle.sheet.specs.Refusals.{sheet_fault}
use Rattle.sheet.specs.Claims.{AcceptedSizes, LongRefused}
use Rattle.sheet.proofs.Accepted.{accepted, accepted_parents}

pub accepted_sizes : AcceptedSizes
accepted_sizes s h =
    let a = accepted s h in
    let few : joints s ≤ 128 = a.few_joints in
    let less : joints s - 1 ≤ 127 = omega arith in
    let own : rank_count s ≤ joints s * (joints s - 1) = entries_few (rank_count s) (joints s) (rankings_part s) a.faultless in
    let most : joints s * (joints s - 1) ≤ 128 * 127 = mul-le-mul few less in
    let e = a.reaches in
    let l = third_most (joints s) (third s) (accepted_parents s h) in
    let rest = length-drop (rank_end s) s in
    record { few_entries = own; most_entries = omega arith; sheet_bytes = omega arith; lists_bytes = omega arith }

pub long_refused : LongRefused
long_refused s l =
    case (eq_ne (sheet_fault s) 0)
    (λ e. let short = (accepted_sizes s e).sheet_bytes in absurd (omega arith))
    (λ ne. omega arith)
