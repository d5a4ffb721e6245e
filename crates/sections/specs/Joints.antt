-- Bytes that name joints: the partners of a pairing, the parents of a skeleton.
use Rattle.std.specs.Prelude.{cond, Option, Some, None, List, ℕ, eqb, get_or}

-- the byte of no joint
abbrev pub no_joint : ℕ
no_joint = 255

-- the joint that byte i names, if it names one
abbrev pub joint_in : List ℕ → ℕ → Option ℕ
joint_in bytes i = cond (eqb (get_or bytes i no_joint) no_joint) None (Some (get_or bytes i no_joint))
