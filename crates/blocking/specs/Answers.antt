-- What an offered pairing is worth.
use Rattle.std.specs.Prelude.{cond, List, ℕ, Option, Result, Ok, Err}
use Rattle.refusals.specs.declared.Refusal.{Refusal}
use Rattle.refusals.specs.declared.Refusal.TheVariants.{NoPairingOffered}
use Rattle.matching.specs.Matchings.{is_matching}
use Rattle.blocking.specs.Blocking.{blocking_pair}

-- over an accepted sheet's n joints and square t: the lowest blocking pair's number, none where it holds; no matching is no pairing
unfoldable pub offer_of : ℕ → List (List ℕ) → List ℕ → Result (Option ℕ) Refusal
offer_of n t m = cond (is_matching n t m) (Ok (blocking_pair n t m)) (Err NoPairingOffered)
