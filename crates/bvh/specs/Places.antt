-- How many bytes the code writes for so many joints.
use Rattle.std.specs.Prelude.{ℕ, ◌+◌, ◌*◌}
use Rattle.sections.specs.Labels.{label_width}

-- three counts, of which one has two bytes; a label and a parent for each joint
abbrev pub written_size : ℕ → ℕ
written_size joints = 4 + (label_width + 1) * joints
