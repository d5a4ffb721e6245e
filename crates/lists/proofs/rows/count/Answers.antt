use Rattle.std.proofs.Common.{rules, ◌≡◌, sym, ◌∙◌, take, get_or, arith}
use Rattle.std.proofs.lemmas.List.{get_or-take}
use Rattle.base.proofs.CountBelow.{count_zero, count_hit, count_miss}
use Rattle.lists.proofs.rows.count.Goals as goal
use Rattle.lists.proofs.rows.count.Goals.{else-test, then-test}

pub loop-b-init : goal.loop-b-init
loop-b-init g c = record { few = omega arith; counted = λ p told. sym (count_zero _) }

pub loop-b-preserved : goal.loop-b-preserved
loop-b-preserved g c =
    let n = c.args.n.count in
    let l = c.args.row.now in
    let here : get_or (take n l) c.loop-b.b-index 0 ≡ get_or l c.loop-b.b-index 0 = get_or-take n l c.loop-b.b-index 0 (omega arith) in
    let inv = c.loop-b.invariant in
    (elim c.if-test.branch [
      | then-test w ↦ record {
        few = omega (arith, w.passed-is, inv.few);
        counted = λ p told. let so = rw here at (told _ _ c.test.ensures) in w.passed-is ∙ count_hit _ _ (inv.counted p told) (sym so ∙ w.if-test.true);
      }
      | else-test w ↦ record {
        few = omega (arith, w.passed-is, inv.few);
        counted = λ p told. let so = rw here at (told _ _ c.test.ensures) in w.passed-is ∙ count_miss _ _ (inv.counted p told) (sym so ∙ w.if-test.false);
      }
    ])

pub returns : goal.returns
returns g c = λ p told.
    let e : c.loop-b.b-index ≡ c.args.n.count = omega arith in
    let same : c.from.result ≡ c.loop-b.passed = search rules in
    same ∙ (rw e at (c.loop-b.invariant.counted p told))
