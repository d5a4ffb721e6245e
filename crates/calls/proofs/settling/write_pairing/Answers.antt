-- The partners are written, then counted off the buffer.
use mathlib.Core.Path.{◌≡◌, sym, ap, ◌∙◌}
use mathlib.Core.List.{◌++◌}
use Prim.Native.Nat.{ℕ}
use native.Mathlib.Omega.{arith}
use lib.ListN.{drop}
use Rattle.roommates.specs.Left.{pairing_of}
use Rattle.roommates.proofs.PairsWritten.{pairing_length}
use Rattle.matching.specs.Matchings.{pair_count}
use Rattle.calls.proofs.LawsCalls.{pairs_written, pairs_few}
use Rattle.calls.proofs.settling.write_pairing.Goals as goal
use Rattle.calls.proofs.settling.write_pairing.Goals.{After-count_pairs}

counted : (c : After-count_pairs) → let a = c.args in c.count_pairs.result ≡ pair_count (pairing_of a.n.count a.lists.now)
counted c = let a = c.args in c.count_pairs.ensures ∙ pairs_written a.n.count a.lists.now _ _ c.write_partners.ensures

pub overflow_cast-result : goal.overflow_cast-result
overflow_cast-result c = omega (arith, counted c, pairs_few _ c.args.n.few c.args.lists.now)

pub returns : goal.returns
returns c =
    let a = c.args in
    let bytes = pairing_of a.n.count a.lists.now in
    record { value = counted c; out_after = c.write_partners.ensures ∙ ap (λ (l : ℕ). bytes ++ drop l a.out.now) (sym (pairing_length a.n.count a.lists.now)) }
