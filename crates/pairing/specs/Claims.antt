-- What C reads off an answer is what was answered: the macros of include/mirror.h take a number apart into the parts that made it.
use Rattle.std.specs.Prelude.{◌≡◌, ℕ, ◌+◌, ◌*◌, ◌/◌, ◌%◌, ◌<◌, Some, None, Ok, Err}
use Rattle.calls.specs.declared.Counts.{Counts}
use Rattle.calls.specs.declared.Phase.TheVariants as P
use Rattle.calls.specs.declared.End.TheVariants as E
use Rattle.skeleton.specs.Answers.{answer_all, answer_astray}
use Rattle.refusals.specs.declared.Refusal.{Refusal}
use Rattle.refusals.specs.Numbers.{number_of, fault_of}
use Rattle.pairing.specs.CCodes.{packed, checked_code, shortened_code, settled_code, counts_code, quoted_code, followed_code, imported_code}

-- MIRROR_REFUSAL; MIRROR_VERDICT, MIRROR_HOLDS and MIRROR_ASTRAY; MIRROR_COUNT, MIRROR_PAIR and MIRROR_SUM
abbrev pub PartsReadBack : Type 0
PartsReadBack = (number verdict count : ℕ) → number < 256 → verdict < 256
    → (packed number verdict count % 256 ≡ number)
    × (packed number verdict count / 256 % 256 ≡ verdict)
    × (packed number verdict count / 65536 ≡ count)

-- mirror_settle's numbers: a refusal alone; none in phase one or two; a count of pairs behind 3 in the verdict's place
pub record SettleNumbers : Type 0 where
  pub refused : (r : Refusal) → settled_code (Err r) ≡ number_of r
  pub none_one : settled_code (Ok (E.None P.One)) ≡ 256
  pub none_two : settled_code (Ok (E.None P.Two)) ≡ 512
  pub paired : (count : ℕ) → settled_code (Ok (E.Paired count)) ≡ 768 + 65536 * count

-- mirror_shorten's numbers: a refusal alone; none, which is in phase one; a count of entries behind 3 in the verdict's place
pub record ShortenNumbers : Type 0 where
  pub refused : (r : Refusal) → shortened_code (Err r) ≡ number_of r
  pub none : shortened_code (Ok None) ≡ 256
  pub lists : (count : ℕ) → shortened_code (Ok (Some count)) ≡ 768 + 65536 * count

-- mirror_check's numbers: a refusal alone; 1 in the verdict's place where the pairing holds; the blocking pair's number with a verdict of 0
pub record CheckNumbers : Type 0 where
  pub refused : (r : Refusal) → checked_code (Err r) ≡ number_of r
  pub holds : checked_code (Ok None) ≡ 256
  pub blocked : (pair : ℕ) → checked_code (Ok (Some pair)) ≡ 65536 * pair

-- mirror_quote's numbers: a refusal alone; none in phase one or two; a sum behind 3 in the verdict's place
pub record QuoteNumbers : Type 0 where
  pub refused : (r : Refusal) → quoted_code (Err r) ≡ number_of r
  pub none_one : quoted_code (Ok (E.None P.One)) ≡ 256
  pub none_two : quoted_code (Ok (E.None P.Two)) ≡ 512
  pub payable : (sum : ℕ) → quoted_code (Ok (E.Paired sum)) ≡ 768 + 65536 * sum

-- mirror_follow's numbers: a refusal alone; 0 where all pairs follow; else how many do not, and the lowest of their numbers
pub record FollowNumbers : Type 0 where
  pub refused : (r : Refusal) → followed_code (Err r) ≡ number_of r
  pub all : followed_code answer_all ≡ 0
  pub astray : (pairs lowest : ℕ) → followed_code (answer_astray pairs lowest) ≡ 256 * pairs + 65536 * lowest

-- mirror_import's numbers: a refusal alone, or the sheet's length above its byte; and MIRROR_REFUSAL and MIRROR_LENGTH, which read them back
pub record ImportNumbers : Type 0 where
  pub refused : (r : Refusal) → imported_code (Err r) ≡ number_of r
  pub sheet : (size : ℕ) → imported_code (Ok size) ≡ 256 * size
  pub read_refused : (r : Refusal) → (imported_code (Err r) % 256 ≡ number_of r) × (imported_code (Err r) / 256 ≡ 0)
  pub read_sheet : (size : ℕ) → (imported_code (Ok size) % 256 ≡ 0) × (imported_code (Ok size) / 256 ≡ size)

-- MIRROR_REFUSAL, MIRROR_PROPOSALS and MIRROR_CUTS
abbrev pub CountsReadBack : Type 0
CountsReadBack = (c : Counts) → c.proposals < 65536
    → (counts_code c % 256 ≡ fault_of c.refusal) × (counts_code c / 65536 % 65536 ≡ c.proposals) × (counts_code c / 4294967296 ≡ c.cuts)
