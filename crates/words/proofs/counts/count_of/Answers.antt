use Rattle.std.proofs.Common.{◌≡◌, ◌∙◌, ap, ℕ, ◌+◌, ◌*◌, ◌-◌, arith, inl, inr, get_or, drop}
use Rattle.writing.specs.Claims.{value_after}
use Rattle.words.proofs.MetLaws.{digits_more, digits_less, digits_end, value_more, value_end, value_reaches}
use Rattle.words.proofs.counts.count_of.Goals as goal

pub returns-in_err-digit : goal.returns-in_err-digit
returns-in_err-digit c = rw c.from_residual.ensures (inl (c.loop-b.invariant.digits ∙ digits_less _ _ c.loop-b-test.true c.in_err-digit.ensures))

pub returns-then-tenth-value : goal.returns-then-tenth-value
returns-then-tenth-value c =
    let least = value_reaches _ _ c.loop-b.value c.loop-b-test.true in
    inr (rw c.loop-b.invariant.value (omega arith))

pub loop-b-preserved : goal.loop-b-preserved
loop-b-preserved c =
    let inv = c.loop-b.invariant in
    let v = c.loop-b.value in
    let b = get_or c.args.word.now c.loop-b.b-index 0 in
    let next : 10 * v + (b - 48) ≡ 10 * v + c.in_ok-digit.digit = omega (arith, c.in_ok-digit.ensures) in
    record {
      digits = inv.digits ∙ digits_more _ _ c.loop-b-test.true (omega (arith, c.in_ok-digit.ensures)) (omega (arith, c.in_ok-digit.ensures));
      value = inv.value ∙ value_more _ _ v c.loop-b-test.true ∙ ap (λ (k : ℕ). value_after k (drop (c.loop-b.b-index + 1) c.args.word.now)) next;
    }

pub returns-then-most-value : goal.returns-then-most-value
returns-then-most-value c =
    let inv = c.loop-b.invariant in
    inr (rw (inv.value, value_end _ _ _ c.loop-b-test.false) (omega arith))

pub returns : goal.returns
returns c =
    let inv = c.loop-b.invariant in
    let end = c.loop-b-test.false in
    (inv.digits ∙ digits_end _ _ end, (inv.value ∙ value_end _ _ _ end, omega arith))
