use Rattle.writing.specs.Written.{Puts}
use Rattle.names.specs.Kept.{kept_names}
use Rattle.bvh.proofs.WriteLaws.{first_labels}
use Rattle.bvh.proofs.sheets.write_labels.Given as goal

abbrev pub invariant-loop-joint : goal.invariant-loop-joint
invariant-loop-joint l = Puts l.initial.out (first_labels (kept_names l.joints.list.items) l.joint-index) l.out
