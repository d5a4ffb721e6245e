use Rattle.std.proofs.Common.{◌≡◌, drop}
use Rattle.writing.specs.Claims.{value_after}
use Rattle.words.specs.Met.{all_digits}
use Rattle.words.proofs.counts.count_of.Given as goal

abbrev pub invariant-loop-b : goal.invariant-loop-b
invariant-loop-b l = record {
  digits : all_digits l.word ≡ all_digits (drop l.b-index l.word);
  value : value_after 0 l.word ≡ value_after l.value (drop l.b-index l.word);
}
