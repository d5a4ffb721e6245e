use Rattle.std.proofs.Common.{◌≡◌, ℕ, Err, Some, refl, arith, rules}
use mathlib.Core.Option.{some}
use Rattle.refusals.proofs.Numbers.{number_some}
use Rattle.words.specs.Words.{words}
use Rattle.words.specs.Met.{Next, NextWord, Reaches, Follows}
use Rattle.words.proofs.MetLaws.{next_shorter, follows_length}
use Rattle.names.specs.declared.joints.NamedJoint.{NamedJoint}
use Rattle.headings.specs.Headings.{heading, site, child_of}
use Rattle.hierarchy.specs.Hierarchy.{children}
use Rattle.hierarchy.proofs.Growth.{children_grows}
use Rattle.hierarchy.proofs.Asked.{some_met, none_met}
use Rattle.hierarchy.proofs.BlockLaws.{block_ended, block_refused, block_broken, block_answered}
use Rattle.hierarchy.proofs.Going.{begun}
use Rattle.hierarchy.proofs.TurnLaws.{turn_ended, turn_close, turn_other, turn_site_broken, turn_site, turn_too_deep, turn_refused, turn_joint}
use Rattle.hierarchy.proofs.blocks.+block_children.Goals as goal
use Rattle.hierarchy.proofs.blocks.+block_children.Goals.{block-In_ok-word, block-In_ok-inside, children-In_ok-word, children-In_ok-ok_or}

-- the name of a block
block_next : (t : ℕ) (c : block-In_ok-word t) → NextWord c.args.text.now c.in_ok-word.word.bytes.now c.in_ok-word.word.rest.now
block_next t c = some_met (Next c.args.text.now) _ _ c.in_ok-word.ensures.value c.next_word.ensures

-- what is behind its heading
block_heading : (t : ℕ) (c : block-In_ok-inside t) → let rest = c.in_ok-word.word.rest.now in
    (heading (words rest) ≡ some (words c.in_ok-inside.inside.now)) × Follows rest c.in_ok-inside.inside.now
block_heading t c =
    let rest = c.in_ok-word.word.rest.now in
    some_met (λ r. Reaches rest r (heading (words rest))) _ _ c.in_ok-inside.ensures.value c.heading.ensures

-- the word that is read of the children, and what it begins
children_next : (t : ℕ) (c : children-In_ok-word t) → NextWord c.loop-word.rest.now c.in_ok-word.word.bytes.now c.in_ok-word.word.rest.now
children_next t c = some_met (Next c.loop-word.rest.now) _ _ c.in_ok-word.ensures.value c.next_word.ensures

child_met : (t : ℕ) (c : children-In_ok-ok_or t) → Some c.in_ok-ok_or.field-0 ≡ child_of c.in_ok-word.word.bytes.now
child_met t c = some_met (λ k. k ≡ child_of c.in_ok-word.word.bytes.now) _ _ c.in_ok-ok_or.ensures.value c.child_of.ensures

pub block-returns-in_err-word : goal.block-returns-in_err-word
block-returns-in_err-word t c =
    let none = none_met (Next c.args.text.now) _ _ c.in_err-word.ensures.value c.next_word.ensures in
    let passed : c.from_residual.result ≡ Err c.in_err-word.field-0.0 = search rules in
    rw (passed, none.1) (λ f l. block_ended _ c.args.joints.now.good (children f c.args.deeper) c.args.above _ none.0)

pub block-returns-in_err-add : goal.block-returns-in_err-add
block-returns-in_err-add t c =
    let next = block_next t (goal.at.block-returns-in_err-add t c).In_ok-word in
    let joint : NamedJoint = record { name = c.in_ok-word.word.bytes; parent = c.args.above } in
    let passed : c.from_residual-in_err-add.result ≡ Err c.in_err-add.field-0.0 = search rules in
    rw passed
    (λ f l. block_refused _ c.args.joints.now.good joint next (children f c.args.deeper) (children_grows f c.args.deeper) c.in_err-add.ensures.answer
    (number_some _))

pub block-returns-in_err-inside : goal.block-returns-in_err-inside
block-returns-in_err-inside t c =
    let next = block_next t (goal.at.block-returns-in_err-inside t c).In_ok-word in
    let joint : NamedJoint = record { name = c.in_ok-word.word.bytes; parent = c.args.above } in
    let rest = c.in_ok-word.word.rest.now in
    let none = none_met (λ r. Reaches rest r (heading (words rest))) _ _ c.in_err-inside.ensures.value c.heading.ensures in
    let passed : c.from_residual-in_err-inside.result ≡ Err c.in_err-inside.field-0.0 = search rules in
    rw (passed, none.1) (λ f l. block_broken _ c.args.joints.now.good joint next (children f c.args.deeper) c.in_ok-add.ensures.answer none.0)

pub block-children-requires : goal.block-children-requires
block-children-requires t c =
    let at = goal.at.block-children-requires t c in
    let next = block_next t at.In_ok-word in
    let inside = block_heading t at.In_ok-inside in
    omega (arith, next_shorter next, follows_length inside.1, c.decreases)

pub block-returns : goal.block-returns
block-returns t c =
    let at = goal.at.block-returns t c in
    let next = block_next t at.In_ok-word in
    let joint : NamedJoint = record { name = c.in_ok-word.word.bytes; parent = c.args.above } in
    let inside = block_heading t at.In_ok-inside in
    block_answered _ c.args.joints.now.good joint next c.in_ok-add.ensures.ok c.args.deeper _ c.len-own.ensures.value inside _ _ c.children.ensures

pub children-loop-word-init : goal.children-loop-word-init
children-loop-word-init t c = begun _ _ _ c.args.joints.now.good

pub children-returns-in_err-word : goal.children-returns-in_err-word
children-returns-in_err-word t c =
    let none = none_met (Next c.loop-word.rest.now) _ _ c.in_err-word.ensures.value c.next_word.ensures in
    let passed : c.from_residual.result ≡ Err c.in_err-word.field-0.0 = search rules in
    rw (passed, none.1) (turn_ended _ _ c.loop-word.invariant none.0)

pub children-returns-in-Close : goal.children-returns-in-Close
children-returns-in-Close t c =
    let at = goal.at.children-returns-in-Close t c in
    let next = children_next t at.In_ok-word in
    let met = child_met t at.In_ok-ok_or in
    turn_close _ _ c.loop-word.invariant next c.in_ok-word.word.rest refl (rw c.in-Close.is at met)

pub children-returns-in_err-rest-in-End : goal.children-returns-in_err-rest-in-End
children-returns-in_err-rest-in-End t c =
    let at = goal.at.children-returns-in_err-rest-in-End t c in
    let next = children_next t at.In_ok-word in
    let met = child_met t at.In_ok-ok_or in
    let rest = c.in_ok-word.word.rest.now in
    let none = none_met (λ r. Reaches rest r (site (words rest))) _ _ c.in_err-rest-in-End.ensures.value c.site.ensures in
    let passed : c.from_residual-in_err-rest-in-End.result ≡ Err c.in_err-rest-in-End.field-0.0 = search rules in
    rw (passed, none.1) (turn_site_broken _ _ c.loop-word.invariant next (rw c.in-End.is at met) none.0)

pub children-loop-word-preserved-in-End : goal.children-loop-word-preserved-in-End
children-loop-word-preserved-in-End t c =
    let at = goal.at.children-loop-word-preserved-in-End t c in
    let next = children_next t at.In_ok-word in
    let met = child_met t at.In_ok-ok_or in
    let rest = c.in_ok-word.word.rest.now in
    let behind = some_met (λ r. Reaches rest r (site (words rest))) _ _ c.in_ok-rest-in-End.ensures.value c.site.ensures in
    turn_site _ _ c.loop-word.invariant next (rw c.in-End.is at met) behind

pub children-returns-then-deeper-eq0 : goal.children-returns-then-deeper-eq0
children-returns-then-deeper-eq0 t c =
    let at = goal.at.children-returns-then-deeper-eq0 t c in
    let next = children_next t at.In_ok-word in
    let met = child_met t at.In_ok-ok_or in
    turn_too_deep _ _ c.loop-word.invariant next (rw c.in-Joint.is at met) c.if-deeper-eq0.true

pub children-returns-in_err-rest-in-Joint : goal.children-returns-in_err-rest-in-Joint
children-returns-in_err-rest-in-Joint t c =
    let at = goal.at.children-returns-in_err-rest-in-Joint t c in
    let next = children_next t at.In_ok-word in
    let met = child_met t at.In_ok-ok_or in
    let passed : c.from_residual-in_err-rest-in-Joint.result ≡ Err c.in_err-rest-in-Joint.field-0.0 = search rules in
    rw passed (turn_refused _ _ c.loop-word.invariant next (rw c.in-Joint.is at met) c.if-deeper-eq0.false c.block.new.joints.list.items _ c.in_err-rest-in-Joint.ensures)

pub children-loop-word-preserved : goal.children-loop-word-preserved
children-loop-word-preserved t c =
    let at = goal.at.children-loop-word-preserved t c in
    let next = children_next t at.In_ok-word in
    let met = child_met t at.In_ok-ok_or in
    turn_joint _ _ c.loop-word.invariant next (rw c.in-Joint.is at met) c.if-deeper-eq0.false _ c.in_ok-rest-in-Joint.rest c.in_ok-rest-in-Joint.ensures c.block.new.joints.good

pub children-returns-in_err-ok_or : goal.children-returns-in_err-ok_or
children-returns-in_err-ok_or t c =
    let next = children_next t (goal.at.children-returns-in_err-ok_or t c).In_ok-word in
    let none = none_met (λ k. k ≡ child_of c.in_ok-word.word.bytes.now) _ _ c.in_err-ok_or.ensures.value c.child_of.ensures in
    let passed : c.from_residual-in_err-ok_or.result ≡ Err c.in_err-ok_or.field-0.0 = search rules in
    rw (passed, none.1) (turn_other _ _ c.loop-word.invariant next none.0)
