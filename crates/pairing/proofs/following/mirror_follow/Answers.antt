use mathlib.Core.Path.{sym, ap, ◌∙◌}
use Rattle.pairing.specs.CCodes.{followed_code}
use Rattle.pairing.proofs.LawsCCodes.{follow_small}
use Rattle.pairing.proofs.following.mirror_follow.Goals as goal

pub followed_code-requires : goal.followed_code-requires
followed_code-requires c = λ k l e. follow_small _ _ k l (sym c.follow.ensures ∙ e)

pub returns : goal.returns
returns c = c.followed_code.ensures ∙ ap followed_code c.follow.ensures
