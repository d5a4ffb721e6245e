use Rattle.std.proofs.Common.{refl}
use Rattle.std.proofs.lemmas.Bool.{lt-leb, le-leb}
use Rattle.names.specs.Names.{is_name}
use Rattle.names.proofs.is_name.Goals as goal

pub returns-then-word-le-LABEL_WIDTH : goal.returns-then-word-le-LABEL_WIDTH
unfolding is_name
returns-then-word-le-LABEL_WIDTH c = rw (le-leb _ _ c.if-word-le-LABEL_WIDTH.true, ← c.visible_run.ensures.value) refl

pub returns-else-word-le-LABEL_WIDTH : goal.returns-else-word-le-LABEL_WIDTH
unfolding is_name
returns-else-word-le-LABEL_WIDTH c = rw (lt-leb _ _ c.if-word-le-LABEL_WIDTH.false) refl
