-- A working and its marks, each of which has saved one or is not set, after one is saved or restored.
use Rattle.std.specs.Prelude.{◌≡◌, List, ℕ, ◌<◌, ◌≤◌, set, get_or, Option, Some, None, Result, Ok, Err, MatchOption}
use Rattle.refusals.specs.declared.Refusal.{Refusal}
use Rattle.refusals.specs.declared.Refusal.TheVariants.{NoSuchMark}
use Rattle.stages.specs.declared.Working.{Working}

-- mark m saves g, in place of what it had saved, if it is a mark
abbrev pub Saves : ℕ → Working → List (Option Working) → List (Option Working) → Result Unit Refusal → Type 0
Saves m g marks after r = (m < 8 → (r ≡ Ok tt) × (after ≡ set marks m (Some g))) × (8 ≤ m → (r ≡ Err NoSuchMark) × (after ≡ marks))

-- the working g becomes the one that mark m has saved, if it is a mark that is set
abbrev pub Restores : ℕ → Working → List (Option Working) → Working → Result Unit Refusal → Type 0
Restores m g marks h r = MatchOption (get_or marks m None) ((r ≡ Err NoSuchMark) × (h ≡ g)) (λ v. (m < 8) × ((r ≡ Ok tt) × (h ≡ v)))
