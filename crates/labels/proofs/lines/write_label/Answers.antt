use Rattle.std.proofs.Common.{◌≡◌, take}
use Rattle.labels.specs.Lines.{label_text}
use Rattle.labels.proofs.Shown.{shown_text}
use Rattle.labels.proofs.lines.write_label.Goals as goal
use Rattle.labels.proofs.lines.write_label.Goals.{After-visible_run-shown}

-- the part that is lent is the label as shown
shown : (c : After-visible_run-shown) → take c.visible_run-shown.result c.args.label.now ≡ label_text c.args.label.now
shown c = shown_text _ _ c.visible_run-shown.ensures.value

pub write-requires : goal.write-requires
write-requires c = rw (shown (goal.at.write-requires c).After-visible_run-shown) c.requires

pub returns : goal.returns
returns c = rw (shown (goal.at.returns c).After-visible_run-shown) at c.write.ensures
