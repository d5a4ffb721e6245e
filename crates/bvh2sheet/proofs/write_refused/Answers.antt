use Rattle.std.proofs.Common.{◌≡◌, ◌≤◌, sym, ◌∙◌, List, ℕ, length, take, drop, arith}
use lib.ListN.{length-append}
use lib.Seq.{length-take-le, take-append_seam}
use Rattle.io.specs.Counts.{IsPrefixLen}
use Rattle.refusals.specs.Numbers.{number_of}
use Rattle.writing.specs.Written.{over}
use Rattle.writing.proofs.Decimals.{number_line_short}
use Rattle.writing.proofs.Writers.{new_room, new_puts}
use Rattle.bvh2sheet.specs.Said.{refused_word, refused_line}
use Rattle.bvh2sheet.proofs.write_refused.Goals as goal
use Rattle.bvh2sheet.proofs.write_refused.Goals.{After-new-said}

-- the line begins its buffer
begins : {line l₁ : List ℕ} {r : ℕ} (l : List ℕ) → (r ≡ length line) × (l₁ ≡ over line l) → IsPrefixLen r l₁ × (take r l₁ ≡ line)
begins {line} {l₁} {r} l h =
    let whole = length-append line (drop (length line) l) in
    let within : r ≤ length l₁ = rw h.1 (omega (arith, h.0)) in
    ((within, sym (length-take-le r l₁ within)), rw (h.0, h.1) (take-append_seam line (drop (length line) l)))

fits : (c : After-new-said) → length (refused_line (number_of c.args.refusal)) ≤ length c.args.line.now
fits c = omega (arith, number_line_short refused_word (number_of c.args.refusal))

pub number_line-requires : goal.number_line-requires
number_line-requires c =
    let number : c.from-2.result ≡ number_of c.args.refusal = c.from-2.ensures ∙ c.from.ensures in
    let room = new_room {w = c.new-said.result} c.new-said.ensures.bytes c.new-said.ensures.start (fits (goal.at.number_line-requires c).After-new-said) in
    (omega arith, rw number room)

pub returns : goal.returns
returns c =
    let number : c.from-2.result ≡ number_of c.args.refusal = c.from-2.ensures ∙ c.from.ensures in
    let wrote = rw number at c.number_line.ensures in
    let says = begins c.args.line.now (new_puts c.new-said.ensures.bytes c.new-said.ensures.start (fits (goal.at.returns c).After-new-said) wrote) in
    record { prefix_len = says.0; line_after = says.1 }
