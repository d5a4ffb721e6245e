-- The parts of a number are read back by division.
use Rattle.std.proofs.Common.{◌≡◌, ◌≤◌, ◌<◌, Option, Some, None, refl, sym, ◌∙◌, arith, rules}
use Rattle.std.proofs.lemmas.List.{get_or_past}
use Rattle.base.proofs.Cases.{case, lt_ge}
use Rattle.refusals.specs.declared.Refusal.{Refusal}
use Rattle.refusals.specs.Numbers.{number_of, by_number, fault_of}
use Rattle.refusals.proofs.Numbers.{refusal_back}
use Rattle.pairing.specs.Claims.{PartsReadBack, CountsReadBack, SettleNumbers, ShortenNumbers, CheckNumbers, QuoteNumbers, FollowNumbers, ImportNumbers}

-- a refusal's number is a byte
number_byte : (r : Refusal) → number_of r < 256
number_byte r =
    case (lt_ge (number_of r) 256)
    (λ l. l)
    (λ g. let many : 21 ≤ number_of r = omega arith in
    let none : Some r ≡ None = sym (refusal_back r) ∙ get_or_past by_number (number_of r) None many in
    search rules)

pub parts_read_back : PartsReadBack
parts_read_back number verdict count h g = (omega arith, omega arith, omega arith)

beside : (f : Option Refusal) → fault_of f < 256
beside None = omega arith
beside (Some r) = number_byte r

pub counts_read_back : CountsReadBack
counts_read_back c g = let h = beside c.refusal in (omega arith, omega arith, omega arith)

pub settle_numbers : SettleNumbers
settle_numbers = record { refused = λ r. omega arith; none_one = refl; none_two = refl; paired = λ count. omega arith }

pub shorten_numbers : ShortenNumbers
shorten_numbers = record { refused = λ r. omega arith; none = refl; lists = λ count. omega arith }

pub check_numbers : CheckNumbers
check_numbers = record { refused = λ r. omega arith; holds = refl; blocked = λ pair. omega arith }

pub quote_numbers : QuoteNumbers
quote_numbers = record { refused = λ r. omega arith; none_one = refl; none_two = refl; payable = λ sum. omega arith }

pub follow_numbers : FollowNumbers
follow_numbers = record { refused = λ r. omega arith; all = refl; astray = λ pairs lowest. omega arith }

pub import_numbers : ImportNumbers
import_numbers = record {
  refused = λ r. refl;
  sheet = λ size. refl;
  read_refused = λ r. let small = number_byte r in (omega arith, omega arith);
  read_sheet = λ size. (omega arith, omega arith);
}
