-- Phase two goes on or ends.
use mathlib.Core.Path.{◌≡◌}
use Prim.Native.Nat.{ℕ, ◌<◌}
use native.Mathlib.Omega.{arith}
use Rattle.roommates.specs.PhaseTwo.{longest_list}
use Rattle.roommates.proofs.Longest.{longest_inside}
use Rattle.stages.specs.declared.Working.{Working}
use Rattle.stages.proofs.LawsStages.{two_ends, two_goes_on}
use Rattle.stages.proofs.Working.in_two.Goals as goal

inside : (g : Working) {x : ℕ} → x ≡ longest_list g.task.joints.count g.lists → x < 128
inside g e = longest_inside _ _ e 128 (omega (arith, g.task.joints.few)) (omega arith)

pub offset_bounds-self-longest : goal.offset_bounds-self-longest
offset_bounds-self-longest c = omega (arith, inside c.args.self.now c.longest_list-longest.ensures)

pub bounds-self-longest : goal.bounds-self-longest
bounds-self-longest c = omega (arith, inside c.args.self.now c.longest_list-longest.ensures)

pub returns-in-0 : goal.returns-in-0
returns-in-0 c = two_ends c.args.self.now _ c.longest_list-longest.ensures c.list_length.ensures (omega (arith, c.in-0.is)) c.end.ensures

pub returns-in_default : goal.returns-in_default
returns-in_default c = two_goes_on c.args.self.now _ c.longest_list-longest.ensures c.list_length.ensures (omega (arith, c.in_default)) c.stand.ensures
