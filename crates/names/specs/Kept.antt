-- Names and parents of joints as the code keeps them.
use Rattle.std.specs.Prelude.{List, map, ℕ}
use Rattle.words.specs.Words.{Words}
use Rattle.names.specs.declared.joints.NamedJoint.{NamedJoint}

abbrev pub kept_names : List NamedJoint → Words
kept_names joints = map (λ j. j.name.now) joints

abbrev pub kept_parents : List NamedJoint → List ℕ
kept_parents joints = map (λ j. j.parent) joints
