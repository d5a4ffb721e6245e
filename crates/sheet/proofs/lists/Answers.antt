-- `lists` goes by the extents, the entries and the parents, and fills the square.
use Rattle.std.proofs.Common.{rules, ◌≡◌, List, ℕ, ◌-◌, ◌*◌, ◌≤◌, length, take, drop, Err, refl, sym, ap, ◌∙◌, Result, Ok}
use mathlib.Core.Path.{ap₂}
use native.Mathlib.Omega.{arith}
use Rattle.base.proofs.Places.{rest_is}
use Rattle.refusals.specs.declared.Refusal.{Refusal}
use Rattle.refusals.specs.Numbers.{number_of, answered}
use Rattle.refusals.proofs.Numbers.{answered_none, answered_refused, value_answered, refusal_answered, some_answered}
use Rattle.std.specs.List.{concat}
use Rattle.sections.specs.Entries.{entries_in, entries_fault}
use Rattle.sections.proofs.Chunks.{faults_are, entries_are}
use Rattle.sections.proofs.Numbers.{entries_is_fault}
use Rattle.square.specs.Inside.{Inside}
use Rattle.square.specs.Mutual.{mutual_entries}
use Rattle.square.proofs.MutualSquare.{sound_fits}
use Rattle.parents.specs.Parents.{parents_fault}
use Rattle.parents.proofs.ThirdLaws.{parents_is_fault}
use Rattle.sheet.specs.declared.Parts.{Parts}
use Rattle.sheet.specs.Format.{joints, rank_count, rankings_part, entries_of, third}
use Rattle.sheet.specs.Refusals.{sheet_fault, extents_fault}
use Rattle.sheet.specs.Square.{placed, square_of}
use Rattle.sheet.specs.Readings.{parts_of, reading_of, square_in}
use Rattle.sheet.proofs.Accepted.{Extents, extents_known, part_long}
use Rattle.sheet.proofs.ReadAs.{ReadWith, read_with, extents_is_fault, square_filled, square_kept}
use Rattle.sheet.proofs.PromiseKept.{sound_entries}
use Rattle.sheet.proofs.SheetLaws.{bad_extents, bad_entries, by_parents}
use Rattle.sheet.proofs.lists.Goals as goal
use Rattle.sheet.proofs.lists.Goals.{After-as_chunks, After-fill, After-read_entries, After-read_third, In_ok-parts, In_ok-read_entries, In_ok-read_third}

-- WHERE THE EXTENTS ARE KNOWN: the sheet, its parts, and what is known of them
abbrev sheet : In_ok-parts → List ℕ
sheet c = c.args.sheet.now

abbrev parts : In_ok-parts → Parts
parts c = c.in_ok-parts.parts

read : (c : In_ok-parts) → ReadWith (sheet c) (extents_fault (sheet c)) (parts c)
read c = read_with (sheet c) (extents_fault (sheet c)) (parts c) (extents_is_fault (sheet c)) (sym c.extents.ensures ∙ c.in_ok-parts.was)

lies : (c : In_ok-parts) → Extents (sheet c)
lies c = extents_known (sheet c) (read c).faultless

-- the entries begin before the third section, and that within the sheet
ordered : (c : In_ok-parts) → ((parts c).rankings ≤ (parts c).parents) × ((parts c).parents ≤ length (sheet c))
ordered c =
    let end = (read c).third_start in
    (omega (arith, end, (read c).entries_start), omega (arith, end, (lies c).reaches))

-- the chunks handed over are the entries
module _ (c : After-as_chunks) where
  abbrev chunks : List (List ℕ)
  chunks = c.as_chunks.result.0.now

  abbrev own : In_ok-parts
  own = (goal.at.After-as_chunks c).In_ok-parts

  cut : take ((parts own).parents - (parts own).rankings) (drop (parts own).rankings (sheet own)) ≡ take (3 * rank_count (sheet own)) (rankings_part (sheet own))
  cut =
      let e : (parts own).parents - (parts own).rankings ≡ 3 * rank_count (sheet own) = omega (arith, (read own).third_start, (read own).entries_start) in
      ap₂ (λ (n k : ℕ). take n (drop k (sheet own))) e (read own).entries_start

  chunks_fault : (n : ℕ) → entries_fault (length chunks) n (concat chunks) ≡ entries_fault (rank_count (sheet own)) n (rankings_part (sheet own))
  chunks_fault = faults_are _ _ (part_long (sheet own) (lies own)) _ cut chunks c.as_chunks.ensures.front c.as_chunks.ensures.front_len

  chunks_are : entries_in chunks ≡ entries_of (sheet own)
  chunks_are = entries_are _ _ (part_long (sheet own) (lies own)) _ cut chunks c.as_chunks.ensures.front c.as_chunks.ensures.front_len

-- a refusal with the sheet's fault: the answer x is it, and the square is kept
refused : (s : List ℕ) (old : List (List ℕ)) (x : Result Parts Refusal) (r : Refusal) → x ≡ Err r → number_of r ≡ sheet_fault s
    → record { value : x ≡ reading_of s; bands_after : old ≡ square_in s old }
refused s old x r same e = record { value = same ∙ answered_refused (parts_of s) (sheet_fault s) r e; bands_after = sym (square_kept s old r e) }

-- WHERE THE ENTRIES ARE READ
read_is : (c : After-read_entries)
    → let s = sheet (goal.at.After-read_entries c).In_ok-parts in
    c.read_entries.result ≡ answered (entries_fault (rank_count s) (joints s) (rankings_part s)) (tt {0})
read_is c =
    let at = goal.at.After-read_entries c in
    rw (← chunks_fault at.After-as_chunks _, ← (read at.In_ok-parts).n_joints) c.read_entries.ensures

clean : (c : In_ok-read_entries) → let s = sheet (goal.at.In_ok-read_entries c).In_ok-parts in entries_fault (rank_count s) (joints s) (rankings_part s) ≡ 0
clean c =
    let at = goal.at.In_ok-read_entries c in
    let s = sheet at.In_ok-parts in
    (value_answered _ _ _ (entries_is_fault (rank_count s) (joints s) (rankings_part s)) (sym (read_is at.After-read_entries) ∙ c.in_ok-read_entries.was)).0

-- what the square asks of them
fits : (c : In_ok-read_entries) → Inside (chunks (goal.at.In_ok-read_entries c).After-as_chunks)
fits c =
    let at = goal.at.In_ok-read_entries c in
    let k = at.In_ok-parts in
    rw (chunks_are at.After-as_chunks) (sound_fits (joints (sheet k)) (entries_of (sheet k)) (lies k).few_joints (sound_entries _ _ _ (clean c)))

-- WHERE THE PARENTS ARE READ
third_is : (c : In_ok-parts) → take (length (sheet c) - (parts c).parents) (drop (parts c).parents (sheet c)) ≡ third (sheet c)
third_is c = rest_is (parts c).parents (sheet c) ∙ ap (λ (j : ℕ). drop j (sheet c)) (read c).third_start

parents_are : (c : After-read_third)
    → let s = sheet (goal.at.After-read_third c).In_ok-parts in
    c.read_third.result ≡ answered (parents_fault (joints s) (third s)) (tt {0})
parents_are c =
    let at = (goal.at.After-read_third c).In_ok-parts in
    rw (← third_is at, ← (read at).n_joints) c.read_third.ensures

-- what they decide
decided : (c : In_ok-read_entries) (k : ℕ) → let s = sheet (goal.at.In_ok-read_entries c).In_ok-parts in parents_fault (joints s) (third s) ≡ k → sheet_fault s ≡ k
decided c = let at = (goal.at.In_ok-read_entries c).In_ok-parts in by_parents (sheet at) (read at).faultless (clean c)

faultless : (c : In_ok-read_third) → sheet_fault (sheet (goal.at.In_ok-read_third c).In_ok-parts) ≡ 0
faultless c =
    let at = goal.at.In_ok-read_third c in
    let s = sheet at.In_ok-parts in
    decided at.In_ok-read_entries 0
    (value_answered _ _ _ (parents_is_fault (joints s) (third s)) (sym (parents_are at.After-read_third) ∙ c.in_ok-read_third.was)).0

filled_is : (c : After-fill) → c.fill.new.bands ≡ square_of (sheet (goal.at.After-fill c).In_ok-parts)
filled_is c = c.fill.ensures ∙ ap (λ es. placed (mutual_entries es)) (chunks_are (goal.at.After-fill c).After-as_chunks)

pub returns-in_err-parts : goal.returns-in_err-parts
returns-in_err-parts c =
    let s = c.args.sheet.now in
    let told = sym c.extents.ensures ∙ c.in_err-parts.was in
    let number = refusal_answered _ _ _ told ∙ sym (bad_extents s _ refl (some_answered _ _ _ told)) in
    let same : c.from_residual.result ≡ Err c.in_err-parts.field-0.0 = search rules in
    refused s c.args.bands.now c.from_residual.result c.in_err-parts.field-0.0 same number

pub slice_bounds-as_chunks-count : goal.slice_bounds-as_chunks-count
slice_bounds-as_chunks-count c = (ordered (goal.at.slice_bounds-as_chunks-count c).In_ok-parts).0

pub slice_bounds-as_chunks-start : goal.slice_bounds-as_chunks-start
slice_bounds-as_chunks-start c = (ordered (goal.at.slice_bounds-as_chunks-start c).In_ok-parts).0

pub slice_bounds-as_chunks-end : goal.slice_bounds-as_chunks-end
slice_bounds-as_chunks-end c = (ordered (goal.at.slice_bounds-as_chunks-end c).In_ok-parts).1

pub returns-in_err-read_entries : goal.returns-in_err-read_entries
returns-in_err-read_entries c =
    let at = goal.at.returns-in_err-read_entries c in
    let s = c.args.sheet.now in
    let told = sym (read_is at.After-read_entries) ∙ c.in_err-read_entries.was in
    let number = refusal_answered _ _ _ told ∙ sym (bad_entries s (read at.In_ok-parts).faultless _ refl (some_answered _ _ _ told)) in
    let same : c.from_residual-in_err-read_entries.result ≡ Err c.in_err-read_entries.field-0.0 = search rules in
    refused s c.args.bands.now c.from_residual-in_err-read_entries.result c.in_err-read_entries.field-0.0 same number

pub slice_bounds-read_third-count : goal.slice_bounds-read_third-count
slice_bounds-read_third-count c = (ordered (goal.at.slice_bounds-read_third-count c).In_ok-parts).1

pub slice_bounds-read_third-start : goal.slice_bounds-read_third-start
slice_bounds-read_third-start c = (ordered (goal.at.slice_bounds-read_third-start c).In_ok-parts).1

pub read_third-requires : goal.read_third-requires
read_third-requires c = let at = (goal.at.read_third-requires c).In_ok-parts in rw (third_is at) (lies at).third_extent

pub returns-in_err-read_third : goal.returns-in_err-read_third
returns-in_err-read_third c =
    let at = goal.at.returns-in_err-read_third c in
    let s = c.args.sheet.now in
    let told = sym (parents_are at.After-read_third) ∙ c.in_err-read_third.was in
    let number = refusal_answered _ _ _ told ∙ sym (decided at.In_ok-read_entries _ refl) in
    let same : c.from_residual-in_err-read_third.result ≡ Err c.in_err-read_third.field-0.0 = search rules in
    refused s c.args.bands.now c.from_residual-in_err-read_third.result c.in_err-read_third.field-0.0 same number

pub invariant_of-fill : goal.invariant_of-fill
invariant_of-fill c = record { inside = fits (goal.at.invariant_of-fill c).In_ok-read_entries }

pub returns : goal.returns
returns c =
    let at = goal.at.returns c in
    let s = c.args.sheet.now in
    let clean = faultless at.In_ok-read_third in
    record {
      value = ap Ok (read at.In_ok-parts).parts_are ∙ answered_none (parts_of s) (sheet_fault s) clean;
      bands_after = filled_is at.After-fill ∙ sym (square_filled s c.args.bands.now clean);
    }
