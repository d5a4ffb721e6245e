-- What reading a hierarchy promises of every text.
use Rattle.std.specs.Prelude.{◌≡◌, ◌↔◌, List, [], ◌∷◌, ◌++◌, ℕ, ◌≤◌, ◌<◌, length}
use Rattle.parents.specs.Claims.{Lower}
use Rattle.parents.specs.Depths.{depth_of}
use Rattle.words.specs.Words.{Words}
use Rattle.hierarchy.specs.Hierarchy.{Joints, left, hierarchy}
use Rattle.hierarchy.specs.Spelt.{Roots, NestsTo32, root_names, joints_in, Spells}

-- a text is read to its end, and these joints are met, exactly if it spells a hierarchy whose joints these are
abbrev pub ReadSpelt : Type 0
ReadSpelt = (s : List ℕ) (js : Joints) → ((ws : Words) × (hierarchy s ≡ left ws js)) ↔ ((h : Roots) × (Spells s h × (js ≡ joints_in h)))

-- so a text has one hierarchy at most, as to its names and what encloses each
abbrev pub OneHierarchy : Type 0
OneHierarchy = (s : List ℕ) (h h' : Roots) → Spells s h → Spells s h' → joints_in h ≡ joints_in h'

-- the parents are a section of as many joints: one for each name, 255 or a lower number
abbrev pub ParentsLower : Type 0
ParentsLower = (h : Roots) → (length (joints_in h).parents ≡ length (joints_in h).names) × Lower (joints_in h).parents

-- blocks nest to depth 32, a root's being 1, exactly if every joint's depth by its parents, which is nought at a root, is below 32; with more than
-- 256 joints it could fail, since a joint in block 255 would pass for a root
abbrev pub NestsByDepth : Type 0
NestsByDepth = (h : Roots) → length (root_names h) ≤ 128 → NestsTo32 h ↔ ((i : ℕ) → depth_of (joints_in h).parents i < 32)

-- A TEXT CUT SHORT does not pass for a whole one, where a mark stands at the cut, a byte that is no gap and ends no keyword: a hierarchy that is
-- read before the mark is that of the whole text, however this goes on.
abbrev pub cut_mark : ℕ
cut_mark = 35

abbrev pub CutShort : Type 0
CutShort = (s later : List ℕ) (h : Roots) → Spells (s ++ (cut_mark ∷ [])) h → Spells (s ++ later) h
