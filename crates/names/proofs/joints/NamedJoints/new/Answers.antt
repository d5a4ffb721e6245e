use Rattle.names.proofs.NameLaws.{names_none}
use Rattle.names.proofs.joints.NamedJoints.new.Goals as goal

pub invariant_of-result : goal.invariant_of-result
invariant_of-result c = record { good = rw c.new.ensures names_none }
