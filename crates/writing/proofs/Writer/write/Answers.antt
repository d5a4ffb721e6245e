use Rattle.std.proofs.Common.{◌≡◌, ◌+◌, ◌-◌, length, refl, arith}
use Rattle.writing.proofs.Writings.{copied_wrote}
use Rattle.writing.proofs.Writer.write.Goals as goal

pub returns : goal.returns
returns c =
    let w = c.args.self.now in
    let word = c.args.word.now in
    let size : w.at + length word - w.at ≡ length word = omega arith in
    let copied = (copied_wrote w.bytes.now word w.at c.requires.fits).buffer in
    let after = c.copy_from_slice.ensures.after in
    record { wrote = record { buffer = cc; behind = refl }; same_buffer = refl }
