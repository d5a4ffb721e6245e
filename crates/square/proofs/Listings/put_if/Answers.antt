use mathlib.Core.Path.{sym, ap, ◌∙◌}
use native.Mathlib.Omega.{arith}
use Rattle.std.proofs.lemmas.Iterator.Adapters.{YieldsList-from_rev_slice}
use Rattle.std.proofs.lemmas.Iterator.Consumers.{YieldsList-turn, YieldsList-end}
use Rattle.square.specs.Inside.{Fits}
use Rattle.square.specs.Mutual.{only}
use Rattle.square.specs.Square.{placed}
use Rattle.square.proofs.Only.{only_nil}
use Rattle.square.proofs.Placed.{placed_none}
use Rattle.square.proofs.Loops.{met_all, met_fits, met_passes, met_fails}
use Rattle.square.proofs.Listings.put_if.Goals as goal
use Rattle.square.proofs.Listings.put_if.Goals.{After-from-e}

fits : (g : _) (c : After-from-e g) → Fits c.from-e.result
fits g c =
    let entries = c.args.self.now.entries.now in
    let turn = YieldsList-turn (YieldsList-from_rev_slice entries cc) c.loop-entry.yielded _ c.loop-entry.yielded_by _ _ c.in-Some.entry c.in-Some.is c.next.ensures.steps in
    rw c.from-e.ensures (met_fits entries c.args.self.now.inside _ _ turn)

pub loop-entry-init : goal.loop-entry-init
loop-entry-init g c = λ passes told. c.requires.empty ∙ sym (ap placed (only_nil passes) ∙ placed_none)

pub test-requires : goal.test-requires
test-requires g c = c.requires.callable _ (fits g (goal.at.test-requires g c).After-from-e)

pub offset_bounds-bands-e : goal.offset_bounds-bands-e
offset_bounds-bands-e g c = let h = fits g (goal.at.offset_bounds-bands-e g c).After-from-e in omega arith

pub bounds-bands-e : goal.bounds-bands-e
bounds-bands-e g c = (fits g (goal.at.bounds-bands-e g c).After-from-e).0

pub bounds-bands-e-then-test : goal.bounds-bands-e-then-test
bounds-bands-e-then-test g c = (fits g (goal.at.bounds-bands-e-then-test g c).After-from-e).1

pub loop-entry-preserved-then-test : goal.loop-entry-preserved-then-test
loop-entry-preserved-then-test g c = λ passes told.
    let so = told _ _ c.test.ensures in
    met_passes passes c.loop-entry.yielded c.in-Some.entry c.from-e.ensures (c.loop-entry.invariant passes told) (sym so ∙ c.if-test.true)

pub loop-entry-preserved : goal.loop-entry-preserved
loop-entry-preserved g c = λ passes told.
    let so = told _ _ c.test.ensures in
    met_fails passes c.loop-entry.yielded c.in-Some.entry c.from-e.ensures (c.loop-entry.invariant passes told) (sym so ∙ c.if-test.false)

pub returns : goal.returns
returns g c = λ passes told.
    let entries = c.args.self.now.entries.now in
    let all = YieldsList-end (YieldsList-from_rev_slice entries cc) c.loop-entry.yielded _ c.loop-entry.yielded_by _ _ c.in-None.is c.next.ensures.steps in
    c.loop-entry.invariant passes told ∙ ap (λ es. placed (only passes es)) (met_all entries c.loop-entry.yielded all.0)
