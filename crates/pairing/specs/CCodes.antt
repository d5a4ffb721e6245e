-- The calls' answers as C has them: one number whose lowest byte is the refusal's number, 0 for none.
use Rattle.std.specs.Prelude.{ℕ, ◌+◌, ◌*◌, ◌^◌, Option, Some, None, Result, Ok, Err}
use Rattle.refusals.specs.declared.Refusal.{Refusal}
use Rattle.refusals.specs.Numbers.{number_of, fault_of}
use Rattle.calls.specs.declared.End.{End}
use Rattle.calls.specs.declared.End.TheVariants as E
use Rattle.calls.specs.declared.Counts.{Counts}
use Rattle.calls.specs.Calls.{phase_number}
use Rattle.skeleton.specs.declared.Strays.{Strays}

-- The version of the interface: raised by each landing that changes the meaning or the signature of a call.
abbrev pub version : ℕ
version = 5

-- a refusal's number, a verdict, and a count or a sum
abbrev pub packed : ℕ → ℕ → ℕ → ℕ
packed number verdict count = number + 256 * verdict + 65536 * count

-- Verdict 1 is none in phase one, 2 none in phase two: the phase's number; 3 is a pairing or lists. Beside a refusal it is 0.
abbrev pub settled_code : Result (End ℕ) Refusal → ℕ
settled_code (Err refusal) = packed (number_of refusal) 0 0
settled_code (Ok (E.None phase)) = packed 0 (phase_number phase) 0
settled_code (Ok (E.Paired count)) = packed 0 3 count

-- a number beside its verdict; verdict 1 where there is none
abbrev pub found_code : ℕ → Result (Option ℕ) Refusal → ℕ
found_code verdict (Err refusal) = packed (number_of refusal) 0 0
found_code verdict (Ok None) = packed 0 1 0
found_code verdict (Ok (Some count)) = packed 0 verdict count

abbrev pub shortened_code : Result (Option ℕ) Refusal → ℕ
shortened_code answer = found_code 3 answer

-- 1 in the verdict's place if the pairing holds, else the blocking pair's number in the count's
abbrev pub checked_code : Result (Option ℕ) Refusal → ℕ
checked_code answer = found_code 0 answer

abbrev pub counts_code : Counts → ℕ
counts_code c = fault_of c.refusal + 65536 * c.proposals + 2 ^ 32 * c.cuts

-- Verdict 3 is a sum; none has no sum.
abbrev pub quoted_code : Result (End ℕ) Refusal → ℕ
quoted_code answer = settled_code answer

-- The number of pairs that do not follow in the verdict's place, and the lowest of their numbers in the count's; both are 0 where all follow.
abbrev pub followed_code : Result (Option Strays) Refusal → ℕ
followed_code (Err refusal) = packed (number_of refusal) 0 0
followed_code (Ok None) = packed 0 0 0
followed_code (Ok (Some strays)) = packed 0 strays.pairs strays.lowest

-- The sheet's length behind the refusal's byte, which is 0 then.
abbrev pub imported_code : Result ℕ Refusal → ℕ
imported_code (Err refusal) = number_of refusal
imported_code (Ok size) = 256 * size
