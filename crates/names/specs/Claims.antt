-- What names without a fault are, and which refusal the first with one brings.
use Rattle.std.specs.Prelude.{◌≡◌, ◌⊎◌, ◌≢◌, ◌↔◌, List, ℕ, ◌+◌, ◌≤◌, ◌<◌, length, get_or, take}
use Rattle.words.specs.Words.{Words}
use Rattle.names.specs.Names.{name_of, names_fault}

-- A name that can be a label: at most 16 bytes, each from 33 to 126.
pub record Name (w : List ℕ) : Type 0 where
  pub short : length w ≤ 16
  pub seen : (i : ℕ) → i < length w → (33 ≤ get_or w i 0) × (get_or w i 0 ≤ 126)

-- At most 128 names, each of which can be a label, and which differ.
pub record GoodNames (names : Words) : Type 0 where
  pub few : length names ≤ 128
  pub each : (i : ℕ) → i < length names → Name (name_of names i)
  pub differ : (i j : ℕ) → j < i → i < length names → name_of names i ≢ name_of names j

abbrev pub NamesRule : Type 0
NamesRule = (names : Words) → names_fault names ≡ 0 ↔ GoodNames names

-- 2: the first 128 are good, and there are more
abbrev pub TooMany : Words → Type 0
TooMany names = GoodNames (take 128 names) × (128 < length names)

-- 20: name i cannot be a label or is an earlier one, though those before it are good; it is not the 129th
pub record FirstBad (names : Words) (i : ℕ) : Type 0 where
  pub inside : i < length names
  pub few : i < 128
  pub earlier : GoodNames (take i names)
  pub bad : GoodNames (take (i + 1) names) → ⊥

pub record NamesNumbers (names : Words) : Type 0 where
  pub number : (names_fault names ≡ 0) ⊎ ((names_fault names ≡ 2) ⊎ (names_fault names ≡ 20))
  pub two : names_fault names ≡ 2 ↔ TooMany names
  pub twenty : names_fault names ≡ 20 ↔ ((i : ℕ) × FirstBad names i)

abbrev pub NamesRefused : Type 0
NamesRefused = (names : Words) → NamesNumbers names
