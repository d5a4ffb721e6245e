-- The depth of a joint goes by its parent's, and the joint number falls at each call.
use Rattle.parents.proofs.depths.+depth.Given as goal

abbrev pub decreases-depth : goal.decreases-depth
decreases-depth l = l.joint
