-- The square of bands: a row for each joint, a place for each candidate, 0 for unlisted.
use Rattle.std.specs.Prelude.{◌≡◌, List, [], ◌∷◌, ℕ, ◌≤◌, ◌<◌, length, get_or, set, replicate}
use Rattle.sections.specs.declared.Entry.{Entry}

-- the band of b on a's list, 0 for unlisted
abbrev pub at : List (List ℕ) → ℕ → ℕ → ℕ
at t a b = get_or (get_or t a []) b 0

abbrev pub put : List (List ℕ) → Entry → List (List ℕ)
put t e = set t e.joint (set (get_or t e.joint []) e.other e.band)

abbrev pub blank : List (List ℕ)
blank = replicate 128 (replicate 128 0)

-- entries, each put in its place
unfoldable pub placed : List Entry → List (List ℕ)
placed [] = blank
placed (e ∷ es) = put (placed es) e

-- What the crates above may use of an accepted sheet's square, with n joints.
pub record SquarePromise (n : ℕ) (t : List (List ℕ)) : Type 0 where
  pub few_joints : n ≤ 128
  pub rows : length t ≡ 128
  pub row : (a : ℕ) → a < 128 → length (get_or t a []) ≡ 128
  pub inside : (a b : ℕ) → 0 < at t a b → (a < n) × (b < n)
  pub not_itself : (a : ℕ) → at t a a ≡ 0
  pub mutual_listing : (a b : ℕ) → 0 < at t a b → 0 < at t b a
  pub small_band : (a b : ℕ) → at t a b ≤ 127
