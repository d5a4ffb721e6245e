-- 7 to the power of a count of joints fits, since 7 to the power 8 does.
use Rattle.std.proofs.Common.{arith}
use Rattle.std.proofs.Math.Nat.{pow-le-pow_right}
use Rattle.check_test.proofs.try_vectors.Goals as goal

pub pow-v-end-requires : goal.pow-v-end-requires
pow-v-end-requires c = let bound = pow-le-pow_right {n = 7} (omega arith) {j = 8} c.args.sheet.now.n.few in omega (arith, bound)
