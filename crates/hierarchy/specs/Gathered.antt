-- Joints as the code gathers them, and what its readers answer.
use Rattle.std.specs.Prelude.{◌≡◌, List, ℕ, ◌<◌, length, Result, Ok, Err}
use Rattle.std.specs.Borrow.{Bor}
use Rattle.refusals.specs.declared.Refusal.{Refusal}
use Rattle.refusals.specs.Numbers.{number_of}
use Rattle.words.specs.Words.{words}
use Rattle.words.specs.Met.{Follows}
use Rattle.names.specs.declared.joints.NamedJoint.{NamedJoint}
use Rattle.names.specs.Kept.{kept_names, kept_parents}
use Rattle.hierarchy.specs.Hierarchy.{Joints, Met, left, met_fault}

-- the joints, by their names and by their parents
abbrev pub gathered : List NamedJoint → Joints
gathered joints = record { names = kept_names joints; parents = kept_parents joints }

-- what a reader of the text s answers where this is met: what follows, whose words are left, and the joints
pub record WasRead (s rest : List ℕ) (joints : List NamedJoint) (met : Met) : Type 0 where
  pub follows : Follows s rest
  pub says : met ≡ left (words rest) (gathered joints)

-- .. or the first fault
abbrev pub Answers : List ℕ → Result (Bor (List ℕ)) Refusal → List NamedJoint → Met → Type 0
Answers s (Ok rest) joints met = WasRead s rest.now joints met
Answers s (Err refusal) joints met = met_fault met ≡ number_of refusal

-- for every number of turns that is above the text's bytes
abbrev pub Answered : List ℕ → Result (Bor (List ℕ)) Refusal → List NamedJoint → (ℕ → Met) → Type 0
Answered s r joints met = (f : ℕ) → length s < f → Answers s r joints (met f)

-- what follows is shorter
abbrev pub Shorter : List ℕ → Result (Bor (List ℕ)) Refusal → Type 0
Shorter s (Ok rest) = length rest.now < length s
Shorter s (Err refusal) = record {}
