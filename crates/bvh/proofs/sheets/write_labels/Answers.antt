use Rattle.writing.proofs.Writers.{joined_starts}
use Rattle.bvh.proofs.WriteLaws.{name_fits, label_room, label_more}
use Rattle.bvh.proofs.sheets.write_labels.Goals as goal

pub loop-joint-init : goal.loop-joint-init
loop-joint-init c = joined_starts _ _

pub write_label-requires : goal.write_label-requires
write_label-requires c =
    let e = c.as_slice-joint-items.ensures in
    let below = rw e at c.loop-joint-test.true in
    rw e (name_fits _ c.args.joints.now.good _ _ below, label_room c.args.joints.now.list.items _ _ below c.requires c.loop-joint.invariant)

pub loop-joint-preserved : goal.loop-joint-preserved
loop-joint-preserved c =
    let e = c.as_slice-joint-items.ensures in
    label_more c.args.joints.now.list.items _ _ (rw e at c.loop-joint-test.true) c.loop-joint.invariant (rw e at c.write_label.ensures)
