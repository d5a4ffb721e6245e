-- What `mirror` prints for a sheet: its refusal, or what settle answers with no choices.
use Rattle.std.specs.Prelude.{List, [], ℕ, zero, suc, Result, Ok, Err, length, replicate}
use Rattle.refusals.specs.declared.Refusal.{Refusal}
use Rattle.refusals.specs.Numbers.{number_of}
use Rattle.sheet.specs.Format.{joints, label_of}
use Rattle.sheet.specs.Refusals.{sheet_fault}
use Rattle.sheet.specs.Square.{square_of}
use Rattle.roommates.specs.Lists.{Square}
use Rattle.calls.specs.declared.End.{End}
use Rattle.calls.specs.declared.End.TheVariants as E
use Rattle.calls.specs.Calls.{phase_number, settle_says, settled_by, partners_of}
use Rattle.listing.specs.Text.{pairing_text, none_text, refused_text}

-- settle's answer in words, with the pairing m if there is one
abbrev pub answer_text : (ℕ → List ℕ) → List ℕ → Result (End ℕ) Refusal → List ℕ
answer_text label m (Ok (E.Paired count)) = pairing_text label m
answer_text label m (Ok (E.None phase)) = none_text (phase_number phase)
answer_text label m (Err refusal) = refused_text (number_of refusal)

-- n joints with the lists t: settle's answer with no choices. The buffer has room for 128 partners, so none is refused for it
-- (number 9); what it holds plays no part.
abbrev pub buffer : List ℕ
buffer = replicate 128 0

abbrev pub answer : ℕ → Square → Result (End ℕ) Refusal
answer n t = settled_by (settle_says n t [] (length buffer))

unfoldable pub lists_text : (ℕ → List ℕ) → ℕ → Square → List ℕ
lists_text label n t = answer_text label (partners_of n t []) (answer n t)

-- a sheet with its first fault
abbrev pub text_or : ℕ → List ℕ → List ℕ
text_or zero s = lists_text (label_of s) (joints s) (square_of s)
text_or (suc k) s = refused_text (suc k)

unfoldable pub sheet_text : List ℕ → List ℕ
sheet_text s = text_or (sheet_fault s) s
