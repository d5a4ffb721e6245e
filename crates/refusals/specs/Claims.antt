-- What the numbers promise.
use Rattle.std.specs.Prelude.{◌≡◌}
use Rattle.refusals.specs.declared.Refusal.{Refusal}
use Rattle.refusals.specs.Numbers.{number_of}

-- no two refusals have one number
abbrev pub NumberedOnce : Type 0
NumberedOnce = (r s : Refusal) → number_of r ≡ number_of s → r ≡ s
