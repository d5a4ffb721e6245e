-- What the square of mutual listings holds, for any entries of up to 128 joints.
use Rattle.std.specs.Prelude.{◌≡◌, List, ℕ, ◌≤◌}
use Rattle.sections.specs.declared.Entry.{Entry}
use Rattle.sections.specs.Claims.{Sound, Each}
use Rattle.square.specs.Mutual.{mutual_entries, mutual_band}
use Rattle.square.specs.Square.{at, placed, SquarePromise}

-- place (a, b) is the band of b on a's entries if b's entries have a, else 0
abbrev pub MutualPlaces : Type 0
MutualPlaces = (n : ℕ) (es : List Entry) → n ≤ 128 → Each (Sound n) es → (a b : ℕ) → at (placed (mutual_entries es)) a b ≡ mutual_band es a b

abbrev pub MutualPromise : Type 0
MutualPromise = (n : ℕ) (es : List Entry) → n ≤ 128 → Each (Sound n) es → SquarePromise n (placed (mutual_entries es))
