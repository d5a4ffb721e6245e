use Rattle.writing.proofs.Writers.{nothing_puts}
use Rattle.bvh.proofs.WriteLaws.{parent_room, parent_more}
use Rattle.bvh.proofs.sheets.write_parents.Goals as goal

pub loop-joint-init : goal.loop-joint-init
loop-joint-init c = nothing_puts _

pub put-requires : goal.put-requires
put-requires c =
    let e = c.as_slice-joint-items.ensures in
    rw e (parent_room c.args.joints.now.list.items _ _ (rw e at c.loop-joint-test.true) c.requires c.loop-joint.invariant)

pub loop-joint-preserved : goal.loop-joint-preserved
loop-joint-preserved c =
    let e = c.as_slice-joint-items.ensures in
    parent_more c.args.joints.now.list.items _ _ (rw e at c.loop-joint-test.true) c.loop-joint.invariant (rw e at c.put.ensures)
