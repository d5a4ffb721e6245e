use lib.ListN.{take}
use Rattle.writing.specs.Written.{Puts}
use Rattle.names.specs.Kept.{kept_parents}
use Rattle.bvh.proofs.sheets.write_parents.Given as goal

abbrev pub invariant-loop-joint : goal.invariant-loop-joint
invariant-loop-joint l = Puts l.initial.out (take l.joint-index (kept_parents l.joints.list.items)) l.out
