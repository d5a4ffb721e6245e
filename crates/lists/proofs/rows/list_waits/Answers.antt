-- Whether a joint waits, by one walk of its list.
use Rattle.std.proofs.Common.{rules, arith, ◌≡◌, take, false}
use Rattle.std.proofs.lemmas.Iterator.{YieldsList-from_slice}
use Rattle.std.proofs.lemmas.Iterator.Consumers.{fold_from_yields_List}
use Rattle.lists.proofs.LawsWaits.{walk, walked, waits_unlisted, waits_fresh, waits_stepped}
use Rattle.lists.proofs.rows.list_waits.Goals as goal
use Rattle.lists.proofs.rows.list_waits.Goals.{After-fold-listed}

-- what its walk has found
all : (c : After-fold-listed) → c.fold-listed.result ≡ walked c.args.n.count c.args.k c.args.row.now
all c =
    let same : c.min.result ≡ c.args.n.count = omega (arith, c.min.ensures, c.args.n.few) in
    fold_from_yields_List _ (walk c.args.k) (false, false) c.fold-listed.result c.fold-listed.ensures.ran
    (YieldsList-from_slice (take c.args.n.count c.args.row.now) cc) (λ a x b q k. search rules)

pub returns-then-k-eq0 : goal.returns-then-k-eq0
returns-then-k-eq0 c = waits_fresh _ _ _ (omega arith) (all (goal.at.returns-then-k-eq0 c).After-fold-listed) c.if-listed.true c.if-k-eq0.true

pub returns-else-k-eq0 : goal.returns-else-k-eq0
returns-else-k-eq0 c = waits_stepped _ _ _ (omega arith) (all (goal.at.returns-else-k-eq0 c).After-fold-listed) c.if-listed.true (omega arith)

pub returns-else-listed : goal.returns-else-listed
returns-else-listed c = waits_unlisted _ _ _ (omega arith) (all (goal.at.returns-else-listed c).After-fold-listed) c.if-listed.false
