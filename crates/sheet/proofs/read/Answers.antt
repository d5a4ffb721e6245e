-- `read` is `lists` with a square of its own.
use Rattle.std.proofs.Common.{rules, ◌≡◌, Err, sym, ◌∙◌}
use Rattle.sheet.specs.Square.{square_of}
use Rattle.sheet.proofs.Accepted.{few_read}
use Rattle.sheet.proofs.PromiseKept.{accepted_square}
use Rattle.sheet.proofs.ReadAs.{ReadAs, read_as, square_filled}
use Rattle.sheet.proofs.read.Goals as goal
use Rattle.sheet.proofs.read.Goals.{In_ok-parts}

parts : (c : In_ok-parts) → ReadAs c.args.sheet.now c.in_ok-parts.parts
parts c = read_as c.args.sheet.now c.in_ok-parts.parts (sym c.lists.ensures.value ∙ c.in_ok-parts.was)

filled : (c : In_ok-parts) → c.lists.new.bands ≡ square_of c.args.sheet.now
filled c = c.lists.ensures.bands_after ∙ square_filled c.args.sheet.now _ (parts c).faultless

pub returns-in_err-parts : goal.returns-in_err-parts
returns-in_err-parts c =
    let same : c.from_residual.result ≡ Err c.in_err-parts.field-0.0 = search rules in
    rw same (sym c.lists.ensures.value ∙ c.in_err-parts.was)

pub invariant_of-joints : goal.invariant_of-joints
invariant_of-joints c = record { few = few_read _ _ (parts (goal.at.invariant_of-joints c).In_ok-parts) }

pub invariant_of-result : goal.invariant_of-result
invariant_of-result c =
    let at = (goal.at.invariant_of-result c).In_ok-parts in
    record { promise = rw (filled at, (parts at).n_joints) (accepted_square c.args.sheet.now (parts at).faultless) }

pub returns : goal.returns
returns c =
    let at = (goal.at.returns c).In_ok-parts in
    record { accepted = sym c.lists.ensures.value ∙ c.in_ok-parts.was; joints_are = (parts at).n_joints; square_is = filled at }
