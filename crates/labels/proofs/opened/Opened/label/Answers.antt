use Rattle.std.proofs.Common.{◌+◌, ◌*◌, ◌-◌, ◌≤◌, List, ℕ, [], length, get_or, ap, ◌∙◌, arith}
use Rattle.labels.proofs.LabelPlaces.{section_label}
use Rattle.labels.proofs.opened.Opened.label.Goals as goal

pub returns : goal.returns
returns c =
    let a = c.args in
    let own : 16 * a.i + 16 ≤ a.self.rankings - a.self.labels = omega arith in
    let within : a.self.labels + (a.self.rankings - a.self.labels) ≤ length a.self.bytes.now = omega arith in
    ap (λ (l : List (List ℕ)). get_or l a.i []) c.as_chunks.ensures.front ∙ section_label a.self.bytes.now a.self.labels _ a.i own within
