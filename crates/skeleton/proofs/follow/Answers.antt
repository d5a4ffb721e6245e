-- A refused sheet's refusal, or what its joints, lists and parents give.
use Rattle.std.proofs.Common.{◌≡◌, ◌∙◌, ◌-◌, ◌≤◌, ℕ, length, take, drop, Err, sym, ap, arith, rules}
use Rattle.base.proofs.Places.{rest_is}
use Rattle.sheet.specs.Format.{third}
use Rattle.sheet.specs.Square.{square_of}
use Rattle.sheet.proofs.Accepted.{accepted, few_read}
use Rattle.sheet.proofs.ReadAs.{ReadAs, read_as, square_filled}
use Rattle.skeleton.proofs.AnswerLaws.{sheet_refused, own_section, sheet_accepted}
use Rattle.skeleton.proofs.follow.Goals as goal
use Rattle.skeleton.proofs.follow.Goals.{In_ok-parts}

parts : (c : In_ok-parts) → ReadAs c.args.sheet.now c.in_ok-parts.parts
parts c = read_as c.args.sheet.now c.in_ok-parts.parts (sym c.lists.ensures.value ∙ c.in_ok-parts.was)

filled : (c : In_ok-parts) → c.lists.new.bands ≡ square_of c.args.sheet.now
filled c = c.lists.ensures.bands_after ∙ square_filled c.args.sheet.now _ (parts c).faultless

-- its third section is what is handed over
third_is : (c : In_ok-parts)
    → let s = c.args.sheet.now in
    let place = c.in_ok-parts.parts.parents in
    take (length s - place) (drop place s) ≡ third s
third_is c =
    let s = c.args.sheet.now in
    rest_is c.in_ok-parts.parts.parents s ∙ ap (λ (k : ℕ). drop k s) (parts c).third_start

within : (c : In_ok-parts) → c.in_ok-parts.parts.parents ≤ length c.args.sheet.now
within c =
    let reaches = (accepted c.args.sheet.now (parts c).faultless).reaches in
    omega (arith, reaches, (parts c).third_start)

pub slice_bounds-follow_lists-count : goal.slice_bounds-follow_lists-count
slice_bounds-follow_lists-count c = omega (arith, within (goal.at.slice_bounds-follow_lists-count c).In_ok-parts)

pub slice_bounds-follow_lists-start : goal.slice_bounds-follow_lists-start
slice_bounds-follow_lists-start c = omega (arith, within (goal.at.slice_bounds-follow_lists-start c).In_ok-parts)

pub invariant_of-joints : goal.invariant_of-joints
invariant_of-joints c = record { few = few_read _ _ (parts (goal.at.invariant_of-joints c).In_ok-parts) }

pub follow_lists-requires : goal.follow_lists-requires
follow_lists-requires c =
    let at = (goal.at.follow_lists-requires c).In_ok-parts in
    own_section c.args.sheet.now c.args.pairing.now c.in_ok-parts.parts c.lists.new.bands (parts at) (filled at) _ (third_is at)

pub returns-in_err-parts : goal.returns-in_err-parts
returns-in_err-parts c =
    let same : c.from_residual.result ≡ Err c.in_err-parts.field-0.0 = search rules in
    same ∙ sheet_refused c.args.sheet.now c.args.pairing.now c.in_err-parts.field-0.0 (sym c.lists.ensures.value ∙ c.in_err-parts.was)

pub returns : goal.returns
returns c =
    let at = (goal.at.returns c).In_ok-parts in
    sheet_accepted c.args.sheet.now c.args.pairing.now c.in_ok-parts.parts c.lists.new.bands (parts at) (filled at) _ (third_is at) c.follow_lists.ensures
