use Rattle.std.proofs.Common.{◌≡◌, ◌∙◌, List, ℕ, ◌<◌, ap, length, arith}
use Rattle.std.proofs.lemmas.Grind.{common_steps}
use Rattle.std.specs.Fmt as printed_by
use Rattle.writing.specs.declared.Writer.{Writer}
use Rattle.writing.specs.Decimal.{decimal}
use Rattle.writing.specs.Written.{Puts}
use Rattle.writing.proofs.Decimals.{decimal_printed}
use Rattle.writing.proofs.Writer.number.Goals as goal
use Rattle.writing.proofs.Writer.number.Goals.{After-as_bytes}

as_printed : (n k : ℕ) → n ≡ k → k < 1000 → printed_by.decimal n ≡ decimal k
as_printed n k e h = rw e (decimal_printed k h)

puts_as : {o p : Writer} {w s : List ℕ} → w ≡ s → Puts o w p → Puts o s p
puts_as e u = rw e at u

printed : (c : After-as_bytes) → c.as_bytes.result.now ≡ decimal c.args.k
printed c = c.as_bytes.ensures.value ∙ c.format.ensures.text ∙ as_printed _ c.args.k (omega arith) c.requires.0

pub write-requires : goal.write-requires
write-requires c =
    let same = printed (goal.at.write-requires c).After-as_bytes in
    let long = ap length same in
    let room = c.requires.1.fits in
    record { fits = grind (arith, common_steps) }

pub returns : goal.returns
returns c =
    let same = printed (goal.at.returns c).After-as_bytes in
    puts_as (grind (arith, common_steps)) c.write.ensures
