-- The rule is one test, computed over the whole table as the code has it.
use Rattle.std.proofs.Common.{◌≡◌, refl, Bool, true, List, ℕ, ◌-◌, ◌*◌, ◌/◌, ◌<◌}
use lib.Dec.{eqb}
use lib.ListN.{get_or}
use borrow.Author.Tests.{eqb-true}
use Rattle.base.specs.Below.{all_below}
use Rattle.base.proofs.AllBelow.{all_true}
use Rattle.pair_rows.specs.declared.TheConstants.{ROW_STARTS}
use Rattle.pair_rows.proofs.row_start.Goals as goal

has_start : List ℕ → ℕ → Bool
has_start starts b = eqb (get_or starts b 0) (b * (b - 1) / 2)

-- where all entries pass the test, each is where its row starts
start_at : (starts : List ℕ) → all_below 128 (has_start starts) ≡ true → (b : ℕ) → b < 128 → get_or starts b 0 ≡ b * (b - 1) / 2
unfolding has_start
start_at starts all b l = eqb-true _ _ (all_true 128 (has_start starts) all b l)

-- the list that the code reads from: no copy of the table stands here
pub returns : goal.returns
unfolding all_below has_start
returns c = start_at ROW_STARTS refl c.args.b c.requires
