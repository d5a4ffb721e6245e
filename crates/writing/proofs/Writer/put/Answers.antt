use Rattle.std.proofs.Common.{refl}
use Rattle.writing.proofs.Writings.{one_wrote}
use Rattle.writing.proofs.Writer.put.Goals as goal

pub returns : goal.returns
returns c = record { wrote = one_wrote _ _ _; same_buffer = refl }
