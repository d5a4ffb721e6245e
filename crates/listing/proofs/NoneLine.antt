-- The line of a working without a pairing has one digit, whatever the phase.
use Rattle.std.proofs.Common.{◌≡◌, refl, ℕ, ◌<◌, length, arith}
use borrow.Author.Tests.{lt-leb}
use Rattle.writing.specs.declared.Writer.{Writer}
use Rattle.writing.specs.Decimal.{decimal, number_line}
use Rattle.writing.specs.Written.{HasRoom}
use Rattle.calls.specs.declared.Phase.{Phase}
use Rattle.calls.specs.declared.Phase.TheVariants as P
use Rattle.calls.specs.Calls.{phase_number}
use Rattle.listing.specs.Text.{none_text}

pub phase_small : (p : Phase) → phase_number p < 10
phase_small P.One = omega arith
phase_small P.Two = omega arith

none_length : (k : ℕ) → k < 10 → length (none_text k) ≡ 13
unfolding number_line decimal
none_length k h = rw (lt-leb 100 k (omega arith), lt-leb 10 k h) refl

pub none_room : {w : Writer} {p k : ℕ} → p < 10 → k < 10 → HasRoom w (none_text p) → HasRoom w (none_text k)
none_room {w} {p} {k} few less h = record { fits = omega (arith, h.fits, none_length p few, none_length k less) }
