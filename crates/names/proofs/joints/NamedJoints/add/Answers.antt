use Rattle.std.proofs.Common.{◌≡◌, ◌≤◌, ◌<◌, sym, true, length, rules, arith}
use Rattle.names.specs.Names.{is_unfit, name_fault}
use Rattle.names.specs.Kept.{kept_names}
use Rattle.names.proofs.NameLaws.{one_too_many, no_label, label_known, name_unfit, name_new}
use Rattle.names.proofs.KnownLaws.{names_length, added_none}
use Rattle.names.proofs.joints.NamedJoints.add.Goals as goal
use Rattle.names.proofs.joints.NamedJoints.add.Goals.{Else-is_full, After-push, then-not-is_name-via-then-not-is_name, then-not-is_name-via-else-not-is_name+then-is_known}

-- where not all names are there, one more is not too many
room : (c : Else-is_full) → length (kept_names c.args.self.now.list.items) < 128
room c =
    let same = names_length c.args.self.now.list.items in
    let few : length c.args.self.now.list.items < 128 = search rules in
    omega arith

-- the name that is added has no fault
fit : (c : After-push) → name_fault (kept_names c.args.self.now.list.items) c.args.joint.name.now ≡ 0
fit c =
    let unknown = label_known _ _ (sym c.if-not-is_name.ensures) (rw c.as_slice.ensures at c.if-is_known.ensures) in
    sym (name_new _ _ (room (goal.at.After-push c).Else-is_full) (sym unknown))

pub returns-then-is_full-clause-answer : goal.returns-then-is_full-clause-answer
returns-then-is_full-clause-answer c =
    let same = names_length c.args.self.now.list.items in
    let full : 128 ≤ length c.args.self.now.list.items = search rules in
    sym (one_too_many _ _ (omega arith))

pub returns-then-not-is_name-clause-answer : goal.returns-then-not-is_name-clause-answer
returns-then-not-is_name-clause-answer c =
    let unfit : true ≡ is_unfit (kept_names c.args.self.now.list.items) c.args.joint.name.now =
    elim c.then-not-is_name.branch [
      | then-not-is_name-via-then-not-is_name w ↦ no_label _ _ (sym w.if-not-is_name.ensures)
      | then-not-is_name-via-else-not-is_name+then-is_known w ↦
          label_known _ _ (sym w.if-not-is_name.ensures) (rw w.as_slice.ensures at w.if-is_known.ensures)
    ] in
    sym (name_unfit _ _ (room (goal.at.returns-then-not-is_name-clause-answer c).Else-is_full) (sym unfit))

pub returns-clause-answer : goal.returns-clause-answer
returns-clause-answer c = fit (goal.at.returns-clause-answer c).After-push

pub invariant_of-self : goal.invariant_of-self
invariant_of-self c = record { good = added_none _ _ c.args.self.now.good (fit (goal.at.invariant_of-self c).After-push) c.push.ensures.items }
