use Rattle.std.proofs.Common.{◌+◌, sym, ap, ◌∙◌}
use Rattle.parents.specs.Depths.{depth_of}
use Rattle.parents.proofs.DepthRule.{no_parent, own_parent, depth_root, depth_above}
use Rattle.parents.proofs.depths.+depth.Goals as goal

pub returns-in_default-clause-value : goal.returns-in_default-clause-value
returns-in_default-clause-value t c =
    let ps = c.args.parents.now in
    sym (depth_root _ ps c.args.joint (no_parent ps c.args.joint (sym c.joint_in.ensures ∙ c.in_default.is)))

pub returns-clause-value : goal.returns-clause-value
returns-clause-value t c =
    let ps = c.args.parents.now in
    let own = own_parent ps c.args.joint c.in-Some.above (sym c.joint_in.ensures ∙ c.in-Some.is) in
    let up = depth_above ps c.requires.0 c.args.joint (λ z. own.1 (sym own.0 ∙ z)) in
    rw c.depth.ensures.value (ap (λ a. depth_of ps a + 1) (sym own.0) ∙ sym up)
