-- One move as the code makes it.
use Rattle.std.specs.Prelude.{◌≡◌, ℕ, ◌≤◌, Result}
use Rattle.refusals.specs.declared.Refusal.{Refusal}
use Rattle.refusals.specs.Numbers.{fault_in}
use Rattle.roommates.specs.Moves.{outcome, move}
use Rattle.stages.specs.declared.Working.{Working}
use Rattle.stages.specs.Workings.{work_of, Ruled}

-- the move of x takes the working g to h, which knows the joint that the rule names if g did, and answers r
abbrev pub Moved : ℕ → Working → Working → Result Unit Refusal → Type 0
Moved x g h r = (h.task ≡ g.task)
    × ((outcome (fault_in r) (work_of h) ≡ move g.task.whole g.task.joints.count (work_of g) x) × (Ruled g → Ruled h))

-- One move more does not overflow the counts. No invariant of the type: what the move leaves need not be roomy.
abbrev pub Roomy : Working → Type 0
Roomy g = (g.made.proposals ≤ 65536) × (g.cuts ≤ 65536)
