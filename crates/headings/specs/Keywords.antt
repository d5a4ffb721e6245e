-- The keywords of a hierarchy, case and all.
use Rattle.std.specs.Prelude.{List, [], ◌∷◌, ℕ}

-- HIERARCHY
abbrev pub hierarchy_word : List ℕ
hierarchy_word = 72 ∷ 73 ∷ 69 ∷ 82 ∷ 65 ∷ 82 ∷ 67 ∷ 72 ∷ 89 ∷ []

-- ROOT
abbrev pub root_word : List ℕ
root_word = 82 ∷ 79 ∷ 79 ∷ 84 ∷ []

-- JOINT
abbrev pub joint_word : List ℕ
joint_word = 74 ∷ 79 ∷ 73 ∷ 78 ∷ 84 ∷ []

-- {
abbrev pub open_word : List ℕ
open_word = 123 ∷ []

-- OFFSET
abbrev pub offset_word : List ℕ
offset_word = 79 ∷ 70 ∷ 70 ∷ 83 ∷ 69 ∷ 84 ∷ []

-- CHANNELS
abbrev pub channels_word : List ℕ
channels_word = 67 ∷ 72 ∷ 65 ∷ 78 ∷ 78 ∷ 69 ∷ 76 ∷ 83 ∷ []

-- End
abbrev pub end_word : List ℕ
end_word = 69 ∷ 110 ∷ 100 ∷ []

-- Site
abbrev pub site_word : List ℕ
site_word = 83 ∷ 105 ∷ 116 ∷ 101 ∷ []

-- }
abbrev pub close_word : List ℕ
close_word = 125 ∷ []

-- MOTION
abbrev pub motion_word : List ℕ
motion_word = 77 ∷ 79 ∷ 84 ∷ 73 ∷ 79 ∷ 78 ∷ []
