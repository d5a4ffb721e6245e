use mathlib.Core.Path.{◌≡◌}
use mathlib.Core.List.{List}
use Prim.Native.Nat.{ℕ}
use native.Mathlib.Omega.{arith}
use Rattle.base.specs.Below.{joined}
use Rattle.writing.specs.Written.{Wrote}
use Rattle.writing.proofs.Writings.{joined_none, joined_wrote, one_wrote, wrote_length, front_wrote}
use Rattle.roommates.specs.Lists.{Square}
use Rattle.roommates.specs.Left.{pairing_of}
use Rattle.roommates.proofs.PairsWritten.{pairing_length}
use Rattle.results.proofs.write_partners.Invariants.{byte}
use Rattle.results.proofs.write_partners.Goals as goal

-- the bytes of all joints are the pairing
pairing_wrote : (n : ℕ) (t : Square) {o out : List ℕ} {r : ℕ} → Wrote o 0 (joined n (byte n t)) out r → Wrote o 0 (pairing_of n t) out r
unfolding pairing_of
pairing_wrote n t w = w

pub loop-a-init : goal.loop-a-init
loop-a-init c = joined_none _ _ _

pub loop-a-preserved : goal.loop-a-preserved
loop-a-preserved c =
    let args = c.args in
    joined_wrote c.loop-a.a (byte args.n.count args.bands.now) c.loop-a.invariant (rw c.partner_on.ensures (one_wrote _ _ _))

pub shape_of-out : goal.shape_of-out
shape_of-out c = wrote_length c.loop-a.invariant

pub returns : goal.returns
returns c =
    let args = c.args in
    let e : c.loop-a.a ≡ args.n.count = omega arith in
    let long = pairing_length args.n.count args.bands.now in
    let all = (front_wrote (pairing_of args.n.count args.bands.now) (omega arith) (pairing_wrote _ _ (rw e at c.loop-a.invariant))).1 in
    rw long at all
