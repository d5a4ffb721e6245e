-- The counts and sums in the calls' answers are small, so that their numbers for C do not overflow.
use mathlib.Core.Path.{◌≡◌}
use mathlib.Core.Bool.{Bool}
use mathlib.Core.List.{List}
use Prim.Native.Nat.{ℕ, ◌*◌, ◌≤◌, ◌<◌}
use native.Mathlib.Omega.{arith}
use lib.ListN.{length, get_or}
use Rattle.std.specs.Prelude.{Some, Ok}
use Rattle.sheet.proofs.PromiseKept.{accepted_square}
use Rattle.matching.proofs.PairNumbers.{pair_number_small}
use Rattle.calls.specs.declared.End.TheVariants as E
use Rattle.offered.specs.Checks.{check_of}
use Rattle.calls.specs.Calls.{settle_answer, shorten_answer, counts_of}
use Rattle.promises.proofs.CallsKeep.{calls_keep}
use Rattle.promises.proofs.CheckKeeps.{check_keeps}
use Rattle.skeleton.specs.Answers.{answer_astray, follow_of}
use Rattle.skeleton.proofs.FollowsKept.{follows_kept}
use Rattle.bvh.specs.Answers.{import_of}
use Rattle.bvh.proofs.ImportKept.{import_kept}
use Rattle.quote.specs.Quotes.{quote_answer}
use Rattle.quote.proofs.QuotesKept.{quotes_kept}

pub settle_count_small : (s cs out : List ℕ) (k : ℕ) → settle_answer s cs out ≡ Ok (E.Paired k) → k < 65536
settle_count_small s cs out k e = omega (arith, ((calls_keep s).settle_paired cs out k e).at_most)

pub shorten_count_small : (s cs out : List ℕ) (k : ℕ) → shorten_answer s cs out ≡ Ok (Some k) → k < 65536
shorten_count_small s cs out k e = omega (arith, ((calls_keep s).shorten_lists cs out k e).at_most)

pub check_pair_small : (s m : List ℕ) (k : ℕ) → check_of s m ≡ Ok (Some k) → k < 65536
check_pair_small s m k e =
    let h = ((check_keeps s m).check_blocked k).0 e in
    let b = h.2 in
    let few = (accepted_square s h.0).few_joints in
    let l = b.joint in
    let q = pair_number_small b.lower b.higher b.below (omega arith) in
    omega (arith, b.numbered)

pub follow_small : (s m : List ℕ) (k l : ℕ) → follow_of s m ≡ answer_astray k l → (k < 256) × (l < 65536)
follow_small s m k l e = let few = (follows_kept s m).few k l e in (omega (arith, few.0), omega (arith, few.1))

pub import_small : (s out : List ℕ) (size : ℕ) → import_of s (length out) ≡ Ok size → size < 65536
import_small s out size e = omega (arith, (import_kept s out).at_most size e)

pub proposals_small : (whole : Bool) (s cs : List ℕ) → (counts_of whole s cs).proposals < 65536
proposals_small whole s cs = omega (arith, ((calls_keep s).counts_small whole cs).0)

-- for a tariff of bytes
pub sum_small : (s cs t : List ℕ) (rebate k : ℕ) → ((i : ℕ) → get_or t i 0 < 256) → quote_answer s cs t rebate ≡ Ok (E.Paired k) → k ≤ 64 * 4294967295
sum_small s cs t rebate k bytes e = ((quotes_kept s t rebate).sum cs k e).small bytes
