-- A working beside its marks, as the code has them.
use Rattle.std.specs.Prelude.{◌≡◌, List, ℕ, length, get_or, Option, Some, None}
use Rattle.records.specs.Records as R
use Rattle.stages.specs.declared.Working.{Working}
use Rattle.stages.specs.Workings.{work_of}
use Rattle.stages.specs.Lawful.{Lawful}

abbrev pub mark_of : Option Working → R.Mark
mark_of None = R.unset
mark_of (Some g) = R.saved (work_of g)

unfoldable pub marks_at : List (Option Working) → ℕ → R.Mark
marks_at marks m = mark_of (get_or marks m None)

abbrev pub marked_at : Working → List (Option Working) → R.Marked
marked_at g marks = R.marked (work_of g) (marks_at marks)

-- the working may go on, and so may each of the same task that a mark has saved
pub record AllLawful (g : Working) (marks : List (Option Working)) : Type 0 where
  pub lawful : Lawful g
  pub marks_lawful : (m : ℕ) (h : Working) → get_or marks m None ≡ Some h → Lawful h × (h.task ≡ g.task)
  pub eight : length marks ≡ 8
