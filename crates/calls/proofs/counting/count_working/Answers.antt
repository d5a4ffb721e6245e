-- A refused sheet's refusal, or what its rankings give.
use Rattle.calls.proofs.LawsCalls.{read_with, counts_refused, counts_read}
use Rattle.calls.proofs.counting.count_working.Goals as goal

pub returns-in-Ok : goal.returns-in-Ok
returns-in-Ok c =
    let a = c.args in
    counts_read a.sheet.now _ _ _ (read_with a.sheet.now c.in-Ok.read c.in-Ok.ensures) a.whole a.choices.now c.count_lists.ensures

pub returns-in-Err : goal.returns-in-Err
returns-in-Err c = let a = c.args in counts_refused a.whole a.sheet.now a.choices.now c.in-Err.refusal c.in-Err.ensures
