-- A refused sheet's refusal, or what its joints and lists give.
use Rattle.std.proofs.Common.{rules, ◌≡◌, Ok, Err, sym, ◌∙◌}
use Rattle.sheet.specs.Square.{square_of}
use Rattle.sheet.proofs.Accepted.{few_read}
use Rattle.sheet.proofs.ReadAs.{ReadAs, read_as, square_filled}
use Rattle.offered.proofs.LawsChecks.{check_read, check_refused}
use Rattle.offered.proofs.check.Goals as goal
use Rattle.offered.proofs.check.Goals.{In_ok-parts}

parts : (c : In_ok-parts) → ReadAs c.args.sheet.now c.in_ok-parts.parts
parts c =
    let read : c.lists.result ≡ Ok c.in_ok-parts.parts = search rules in
    read_as c.args.sheet.now c.in_ok-parts.parts (sym c.lists.ensures.value ∙ read)

filled : (c : In_ok-parts) → c.lists.new.bands ≡ square_of c.args.sheet.now
filled c = c.lists.ensures.bands_after ∙ square_filled c.args.sheet.now _ (parts c).faultless

pub returns-in_err-parts : goal.returns-in_err-parts
returns-in_err-parts c =
    let same : c.from_residual.result ≡ Err c.in_err-parts.field-0.0 = search rules in
    let refused : c.lists.result ≡ Err c.in_err-parts.field-0.0 = search rules in
    same ∙ check_refused c.args.sheet.now c.args.pairing.now _ (sym c.lists.ensures.value ∙ refused)

pub invariant_of-joints : goal.invariant_of-joints
invariant_of-joints c = record { few = few_read _ _ (parts (goal.at.invariant_of-joints c).In_ok-parts) }

pub returns : goal.returns
returns c =
    let at = (goal.at.returns c).In_ok-parts in
    check_read c.args.sheet.now c.in_ok-parts.parts c.lists.new.bands (parts at) (filled at) c.args.pairing.now c.offer.ensures
