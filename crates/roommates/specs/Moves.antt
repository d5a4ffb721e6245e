-- One move, one rule: a choice moves a working or is refused, and a rule names the joint where choices have run out.
use Rattle.std.specs.Prelude.{Bool, true, false, ◌&&◌, cond, List, [], ◌∷◌, ℕ, zero, suc, ◌+◌, ◌*◌, eqb, ltb}
use Rattle.base.specs.Below.{any_below}
use Rattle.roommates.specs.declared.Stage.{Stage}
use Rattle.roommates.specs.declared.Stage.TheVariants.{Proposing, Cutting, NoneOne, NoneTwo, Paired}
use Rattle.roommates.specs.Lists.{Square}
use Rattle.roommates.specs.PhaseOne.{Work, work, fresh, waits, step, lowest_waiting, some_emptied}
use Rattle.roommates.specs.PhaseTwo.{Cut, kept, neither, aside_of, cut_at, longer, longest_list}

-- the working at another stage, with joints set aside, after one more cut that left the lists t
abbrev pub staged : Stage → Work → Work
staged s w = work s w.lists w.reach w.received w.aside w.proposals w.cuts

abbrev pub with_aside : List ℕ → Work → Work
with_aside a w = work w.stage w.lists w.reach w.received a w.proposals w.cuts

abbrev pub with_cut : Square → Work → Work
with_cut t w = work w.stage t w.reach w.received w.aside w.proposals (suc w.cuts)

-- PHASE TWO runs while some list is longer than one.
unfoldable pub in_two : ℕ → Work → Work
in_two n w = staged (cond (any_below n (λ x. longer n w.lists x)) Cutting Paired) w

-- PHASE ONE ends when nobody waits. A joint that ever received a proposal and has an empty list then gives none. Joints empty without
-- one are set aside, and phase two begins; but shorten's working (not `whole`) ends here.
unfoldable pub end_one : Bool → ℕ → Work → Work
end_one whole n w =
    let lists = cond whole (in_two n (with_aside (aside_of n w.lists) w)) (staged Paired w) in
    cond (some_emptied n w) (staged NoneOne w) lists

unfoldable pub in_one : Bool → ℕ → Work → Work
in_one whole n w = cond (eqb (lowest_waiting n w) n) (end_one whole n w) w

-- a working that begins: where nobody lists anybody its phase one ends at once
abbrev pub begun : Bool → ℕ → Square → Work
begun whole n t = in_one whole n (fresh t)

-- What becomes of a working: the refusal of a choice (0 for none), and the working as it then stands.
pub record Outcome : Type 0 where
  pub refusal : ℕ
  pub work_is : Work

abbrev pub outcome : ℕ → Work → Outcome
outcome r w = record { refusal = r; work_is = w }

-- a cut, by what it leaves
abbrev pub after_cut : ℕ → Work → Cut → Work
after_cut n w (kept t) = in_two n (with_cut t w)
after_cut n w neither = staged NoneTwo (with_cut w.lists w)

-- ONE MOVE: the choice of x. 11 in phase one: x doesn't wait, or is no joint. 12 in phase two: x's list is not longer than one, or x is no
-- joint. 13: the working has ended.
abbrev pub move_in : Stage → Bool → ℕ → Work → ℕ → Outcome
move_in Proposing whole n w x = cond (ltb x n && waits n w x) (outcome 0 (in_one whole n (step n w x))) (outcome 11 w)
move_in Cutting whole n w x = cond (ltb x n && longer n w.lists x) (outcome 0 (after_cut n w (cut_at n w.aside w.lists x))) (outcome 12 w)
move_in NoneOne whole n w x = outcome 13 w
move_in NoneTwo whole n w x = outcome 13 w
move_in Paired whole n w x = outcome 13 w

unfoldable pub move : Bool → ℕ → Work → ℕ → Outcome
move whole n w x = move_in w.stage whole n w x

-- ONE RULE names the joint where choices have run out: in phase one the lowest that waits, in phase two the one with the longest list. An
-- ended working has none.
abbrev pub ruled_in : Stage → ℕ → Work → ℕ
ruled_in Proposing n w = lowest_waiting n w
ruled_in Cutting n w = longest_list n w.lists
ruled_in NoneOne n w = n
ruled_in NoneTwo n w = n
ruled_in Paired n w = n

unfoldable pub ruled : ℕ → Work → ℕ
ruled n w = ruled_in w.stage n w

-- a refusal ends it; else it goes on
abbrev pub onward : Outcome → (Work → Outcome) → Outcome
onward o more = cond (eqb o.refusal 0) (more o.work_is) o

-- the choices, each of which acts on the working that the one before left
unfoldable pub moves : Bool → ℕ → Work → List ℕ → Outcome
moves whole n w [] = outcome 0 w
moves whole n w (x ∷ cs) = onward (move whole n w x) (λ v. moves whole n v cs)

-- the rule's moves, f of them; the end of a working stays as it is
unfoldable pub concluded : ℕ → Bool → ℕ → Work → Work
concluded zero whole n w = w
concluded (suc f) whole n w = concluded f whole n (move whole n w (ruled n w)).work_is

-- More moves than there can be: a step makes a proposal, of which there are at most n × n, and a cut strikes a pair.
abbrev pub turns : ℕ → ℕ
turns n = suc (n * n + n * n)

-- what choices leave, carried to the end by the rule's moves; a refusal ends it
abbrev pub carried_out : Bool → ℕ → Outcome → Outcome
carried_out whole n o = onward o (λ w. outcome 0 (concluded (turns n) whole n w))

-- A WHOLE WORKING, settle's (`whole`) or shorten's: the choices' moves, then the rule's to the end.
unfoldable pub worked : Bool → ℕ → Square → List ℕ → Outcome
worked whole n t cs = carried_out whole n (moves whole n (begun whole n t) cs)

abbrev pub settles : ℕ → Square → List ℕ → Outcome
settles n t cs = worked true n t cs

abbrev pub shortens : ℕ → Square → List ℕ → Outcome
shortens n t cs = worked false n t cs
