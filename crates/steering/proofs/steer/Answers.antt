-- The records are followed, and unless something is refused the rule ends the working.
use mathlib.Core.Path.{◌≡◌, refl, sym, ◌∙◌, ap}
use mathlib.Core.Logic.{◌≢◌}
use Prim.Native.Nat.{◌%◌}
use lib.ListN.{length}
use native.Mathlib.Omega.{arith}
use Rattle.std.proofs.Common.{Err, rules}
use Rattle.records.specs.Records.{records_of}
use Rattle.refusals.proofs.Numbers.{number_some}
use Rattle.steering.specs.Ends.{records_in}
use Rattle.steering.proofs.LawsSteering.{records_in_bytes, odd_so, refused_so, ended_so}
use Rattle.steering.proofs.steer.Goals as goal
use Rattle.steering.proofs.steer.Goals.{Then-not-is_empty, After-follow}

are : (c : After-follow) → records_in c.as_chunks.result.0.now ≡ records_of c.args.choices.now
are c = ap records_in c.as_chunks.ensures.front ∙ records_in_bytes _ c.args.choices.now refl

even : (c : After-follow) → length c.args.choices.now % 2 ≡ 0
even c =
    let none : length c.as_chunks.result.1.now ≡ 0 = search rules in
    sym c.as_chunks.ensures.back_len ∙ none

odd : (c : Then-not-is_empty) → length c.args.choices.now % 2 ≢ 0
odd c z =
    let none : length c.as_chunks.result.1.now ≡ 0 = c.as_chunks.ensures.back_len ∙ z in
    search rules

pub returns-then-not-is_empty : goal.returns-then-not-is_empty
returns-then-not-is_empty c = λ whole n t b. odd_so whole n t c.args.working.now b c.args.choices.now (odd c)

pub returns-in_err-follow : goal.returns-in_err-follow
returns-in_err-follow c = λ whole n t b.
    let back : c.from_residual.result ≡ Err c.in_err-follow.field-0.0 = search rules in
    let a = (goal.at.returns-in_err-follow c).After-follow in
    rw back (
    refused_so whole n t c.args.working.now b _ (even a) _ (are a) c.follow.new.working _
    (λ z. omega (arith, z, number_some c.in_err-follow.field-0.0)) c.in_err-follow.ensures.followed
    )

pub returns : goal.returns
returns c = λ whole n t b.
    let a = (goal.at.returns c).After-follow in
    ended_so whole n t c.args.working.now b _ (even a) _ (are a) c.follow.new.working c.conclude.new.working c.in_ok-follow.ensures.followed
    c.follow.ensures.task c.conclude.ensures
