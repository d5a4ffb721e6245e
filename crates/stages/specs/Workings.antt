-- A working as the code has it.
use Rattle.std.specs.Prelude.{◌≡◌, Bool, ℕ, ◌<◌, MatchOption}
use Rattle.roommates.specs.Lists.{Square}
use Rattle.roommates.specs.PhaseOne.{Work, work}
use Rattle.roommates.specs.Moves.{begun, ruled}
use Rattle.stages.specs.declared.Working.{Working}

abbrev pub work_of : Working → Work
work_of g = work g.stage g.lists g.made.reach g.made.received g.aside g.made.proposals g.cuts

-- it knows the joint that the rule names: none where the rule's number is that of no joint
abbrev pub Ruled : Working → Type 0
Ruled g = let n = g.task.joints.count in MatchOption g.next (ruled n (work_of g) ≡ n) (λ x. (x < n) × (x ≡ ruled n (work_of g)))

-- g becomes h, which is the working w of the same task, and knows the rule's joint
abbrev pub Becomes : Working → Work → Working → Type 0
Becomes g w h = (h.task ≡ g.task) × ((work_of h ≡ w) × Ruled h)

-- it has begun: settle's working (`whole`) or shorten's, of n joints' lists t
abbrev pub Begun : Bool → ℕ → Square → Working → Type 0
Begun whole n t g = (g.task.whole ≡ whole) × ((g.task.joints.count ≡ n) × (work_of g ≡ begun whole n t))
