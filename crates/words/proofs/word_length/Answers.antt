use Rattle.std.proofs.Common.{rules}
use Rattle.words.proofs.WordLaws.{run_length}
use Rattle.words.proofs.word_length.Goals as goal

pub returns-clause-value : goal.returns-clause-value
returns-clause-value c = run_length _ _ (search rules) (search rules) (search rules)
