-- The sheet with shorten's bytes as its rankings has the lists left as its square.
use mathlib.Core.Path.{◌≡◌, refl, sym, ap, ◌∙◌}
use mathlib.Core.Bool.{and-true}
use mathlib.Core.List.{List, [], ◌++◌}
use mathlib.Core.Logic.{inl}
use Prim.Native.Nat.{ℕ, ◌<◌}
use native.Mathlib.Omega.{arith}
use lib.Dec.{ltb}
use lib.ListN.{take}
use lib.Seq.{ext_get_or}
use borrow.Author.Tests.{lt-ltb, ltb-true}
use Rattle.sections.specs.declared.Entry.{Entry}
use Rattle.sections.specs.Entries.{entry_of, band_in}
use Rattle.square.specs.Mutual.{returned, mutual_entries}
use Rattle.square.proofs.Only.{only_passes, only_agree}
use Rattle.square.proofs.Bands.{own_listed}
use Rattle.square.proofs.MutualSquare.{both_listed, mutual_listed}
use Rattle.sheet.specs.Format.{joints, count_start, entries_of, third}
use Rattle.sheet.specs.Refusals.{sheet_fault}
use Rattle.sheet.specs.Square.{at, square_of, SquarePromise}
use Rattle.sheet.specs.Promise.{MutualListing}
use Rattle.sheet.proofs.Accepted.{accepted, accepted_parents}
use Rattle.sheet.proofs.PromiseKept.{accepted_entries, accepted_square, square_is_mutual, square_is_entries}
use Rattle.roommates.specs.Lists.{Square, row}
use Rattle.relisting.specs.Written.{PairsStruck, left, relisted, ranked, without}
use Rattle.relisting.specs.Claims.{ReadsBack, WrittenReturned, WithoutSame}
use Rattle.relisting.proofs.Strikes.{pairs_below}
use Rattle.relisting.proofs.LeftWritten.{left_on, on_count, on_written}
use Rattle.relisting.proofs.OtherRankings.{ranked_joints, ranked_label, ranked_count, ranked_entries, ranked_third, ranked_accepted}

-- squares of 128 rows of 128 with the same places are the same
same_places : {n : ℕ} {s t u : Square} → SquarePromise n t → PairsStruck s u → ((a b : ℕ) → at t a b ≡ at u a b) → t ≡ u
same_places {n} {s} {t} {u} p r h =
    let rows = p.rows in
    ext_get_or [] t u (p.rows ∙ sym r.rows)
    (λ a l. let k : a < 128 = omega arith in
    ext_get_or 0 (row t a) (row u a) (p.row a k ∙ sym (r.row_length a k)) (λ b m. h a b))

relisted_is : (s : List ℕ) (u : Square) (own : List ℕ) → sheet_fault s ≡ 0 → PairsStruck (square_of s) u
    → relisted s u own ≡ ranked s (left u (entries_of s)) own
unfolding relisted ranked
relisted_is s u own h r = ap (λ (l : List ℕ). take (count_start s) s ++ (l ++ own)) (on_written (left_on s u h r))

pub reads_back : ReadsBack
reads_back s u own h r section =
    let es : List Entry = left u (entries_of s) in
    let x = accepted s h in
    let on = left_on s u h r in
    let both = (pairs_below (accepted_square s h) r).both in
    let mutuals : MutualListing es = λ a b l. rw (← on.bands b a) (both a b (rw (← on.bands a b) at l)) in
    let good : sheet_fault (ranked s es own) ≡ 0 = ranked_accepted s x es own on.each on.ascending section in
    let square : square_of (ranked s es own) ≡ u = same_places (accepted_square (ranked s es own) good) r
    (λ a b. square_is_entries (ranked s es own) good (rw (ranked_entries s x es own) mutuals) a b ∙ rw (ranked_entries s x es own) (sym (on.bands a b))) in
    rw (relisted_is s u own h r) record {
      accepted = good;
      same_joints = ranked_joints s x es own;
      same_labels = ranked_label s x es own;
      count_left = ranked_count s x es own ∙ sym (on_count on);
      entries_left = ranked_entries s x es own;
      same_square = square;
      third_is = ranked_third s x es own;
    }

pub written_returned : WrittenReturned
written_returned s u h r j l =
    let e : Entry = entry_of (left u (entries_of s)) j in
    let listed : 0 < at u e.joint e.other = ltb-true 0 _ (only_passes (λ a b. ltb 0 (at u a b)) (entries_of s) j l) in
    let kept = (pairs_below (accepted_square s h) r).kept e.joint e.other listed in
    (mutual_listed (entries_of s) e.joint e.other (rw (kept, square_is_mutual s h) at listed)).1

-- THE SHEET WITHOUT ITS ONE-SIDED ENTRIES: those left on its own square are the mutual listings
nothing_struck : {n : ℕ} {t : Square} → SquarePromise n t → PairsStruck t t
nothing_struck p = record { rows = p.rows; row_length = p.row; places = λ a b. inl refl }

left_mutual : (s : List ℕ) → sheet_fault s ≡ 0 → left (square_of s) (entries_of s) ≡ mutual_entries (entries_of s)
left_mutual s h =
    let es : List Entry = entries_of s in
    only_agree _ (returned es) es λ j l.
    let e : Entry = entry_of es j in
    let own = own_listed (joints s) es (accepted_entries s h).0 j l in
    rw (square_is_mutual s h e.joint e.other, both_listed es e.joint e.other, lt-ltb 0 (band_in es e.joint e.other) own)
    (and-true (returned es e.joint e.other))

pub without_same : WithoutSame
without_same s h =
    let x = accepted s h in
    let r = nothing_struck (accepted_square s h) in
    let same : relisted s (square_of s) (third s) ≡ without s =
    relisted_is s (square_of s) (third s) h r ∙ ap (λ (es : List Entry). ranked s es (third s)) (left_mutual s h) in
    (rw same at (reads_back s (square_of s) (third s) h r (accepted_parents s h)), ranked_entries s x (mutual_entries (entries_of s)) (third s))
