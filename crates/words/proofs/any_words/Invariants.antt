use mathlib.Core.Path.{◌≡◌}
use Prim.Native.Nat.{◌-◌}
use Rattle.words.specs.Words.{words}
use Rattle.words.specs.Met.{any_words, Follows}
use Rattle.words.proofs.any_words.Given as goal

abbrev pub invariant-loop : goal.invariant-loop
invariant-loop l =
    record { same : any_words l.count (words l.text) ≡ any_words (l.count - l.counter) (words l.rest); follows : Follows l.text l.rest }
