use Rattle.std.proofs.Common.{◌≡◌, ◌+◌, ◌-◌, ℕ, replicate, refl, arith, rules}
use Rattle.std.proofs.lemmas.List.{length-replicate}
use Rattle.writing.proofs.Writings.{copied_wrote}
use Rattle.writing.proofs.Writer.zeros.Goals as goal

pub returns : goal.returns
returns c =
    let w = c.args.self.now in
    let count = c.args.count in
    let size : w.at + count - w.at ≡ count = omega arith in
    let copied = rw length-replicate at (copied_wrote w.bytes.now (replicate {A = ℕ} count 0) w.at c.requires.fits) in
    let buffer = copied.buffer in
    record { wrote = record { buffer = search rules; behind = copied.behind }; same_buffer = refl }
