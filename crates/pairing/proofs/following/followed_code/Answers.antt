-- Where some do not follow, both numbers are small.
use Rattle.std.proofs.Common.{rules, ◌≡◌, ◌<◌}
use native.Mathlib.Omega.{arith}
use Rattle.skeleton.specs.Answers.{answer_astray}
use Rattle.pairing.proofs.following.followed_code.Goals as goal

pub packed-requires-in-Ok-Some : goal.packed-requires-in-Ok-Some
packed-requires-in-Ok-Some c =
    let strays = c.in-Ok-Some.strays in
    let same : c.args.answer ≡ answer_astray strays.pairs strays.lowest = search rules in
    (omega arith, c.requires strays.pairs strays.lowest same)
