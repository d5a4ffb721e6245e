use mathlib.Core.Path.{◌≡◌}
use Rattle.std.specs.List.{concat}
use Rattle.base.specs.Faults.{fault_below}
use Rattle.sections.specs.Entries.{entry_fault}
use Rattle.sections.proofs.entry_section.read_entries.Given as goal

abbrev pub invariant-loop-j : goal.invariant-loop-j
invariant-loop-j l = fault_below l.j (entry_fault l.n (concat l.entries)) ≡ 0
