-- Worked examples of the call: texts by their words, and the sheets that they become, or which refusal comes first.
use Rattle.std.specs.Prelude.{◌≡◌, List, [], ◌∷◌, ◌++◌, ℕ, length, replicate, Result, Ok, Err}
use Rattle.refusals.specs.declared.Refusal.{Refusal}
use Rattle.refusals.specs.declared.Refusal.TheVariants.{OutTooShort, BadHierarchy, BadName}
use Rattle.words.specs.Words.{Words}
use Rattle.headings.specs.Keywords.{
  hierarchy_word,
  root_word,
  joint_word,
  open_word,
  offset_word,
  channels_word,
  end_word,
  site_word,
  close_word,
  motion_word,
}
use Rattle.bvh.specs.Answers.{import_of, import_into}

-- A ROW: a text, a buffer, the answer, and the buffer after it.
pub record Row : Type 0 where
  pub text : List ℕ
  pub out : List ℕ
  pub answer : Result ℕ Refusal
  pub left : List ℕ

abbrev pub Holds : Row → Type 0
Holds r = (import_of r.text (length r.out) ≡ r.answer) × (import_into r.text r.out ≡ r.left)

-- a text of words, each with a byte behind it that parts words
unfoldable pub spaced : ℕ → Words → List ℕ
spaced gap [] = []
spaced gap (w ∷ ws) = w ++ gap ∷ spaced gap ws

-- a buffer of so many bytes, all 7
abbrev pub room : ℕ → List ℕ
room n = replicate n 7

-- a sheet behind which a byte is left; a refusal
abbrev pub becomes : Words → List ℕ → Row
becomes ws sheet = record { text = spaced 10 ws; out = room (length sheet) ++ (7 ∷ []); answer = Ok (length sheet); left = sheet ++ (7 ∷ []) }

abbrev pub refuses : Words → Refusal → Row
refuses ws refusal = record { text = spaced 10 ws; out = room 40; answer = Err refusal; left = room 40 }

-- the words a, b, c, d, and the count 0
abbrev pub a : List ℕ
a = 97 ∷ []

abbrev pub b : List ℕ
b = 98 ∷ []

abbrev pub c : List ℕ
c = 99 ∷ []

abbrev pub d : List ℕ
d = 100 ∷ []

abbrev pub nought : List ℕ
nought = 48 ∷ []

-- a block without channels, with what is in it; OFFSET's words are any words
abbrev pub block_of : List ℕ → Words → Words
block_of name inside = name ∷ open_word ∷ offset_word ∷ a ∷ offset_word ∷ close_word ∷ channels_word ∷ nought ∷ inside ++ (close_word ∷ [])

abbrev pub site : Words
site = end_word ∷ site_word ∷ open_word ∷ offset_word ∷ a ∷ b ∷ c ∷ close_word ∷ []

abbrev pub text : Words → Words
text blocks = hierarchy_word ∷ root_word ∷ blocks

-- a label of one byte, or of several
abbrev pub label : List ℕ → List ℕ
label name = name ++ replicate 15 0

abbrev pub sixteen : List ℕ
sixteen = replicate 16 126

abbrev pub rows : List Row
rows =
    -- a root; with an End Site, which is no joint; with two channels, of which one is a brace
    becomes (text (block_of a [])) (1 ∷ label a ++ (0 ∷ 0 ∷ 1 ∷ 255 ∷ []))
    ∷ becomes (text (block_of a site)) (1 ∷ label a ++ (0 ∷ 0 ∷ 1 ∷ 255 ∷ []))
    ∷ becomes (text (a ∷ open_word ∷ offset_word ∷ a ∷ a ∷ a ∷ channels_word ∷ (48 ∷ 50 ∷ []) ∷ b ∷ close_word ∷ close_word ∷ []))
    (1 ∷ label a ++ (0 ∷ 0 ∷ 1 ∷ 255 ∷ []))
    -- behind a closing brace: b and c in a, d in c
    ∷ becomes (text (block_of a (joint_word ∷ block_of b site ++ (joint_word ∷ block_of c (joint_word ∷ block_of d [])))))
    (4 ∷ label a ++ label b ++ label c ++ label d ++ (0 ∷ 0 ∷ 4 ∷ 255 ∷ 0 ∷ 0 ∷ 2 ∷ []))
    -- two roots, and MOTION, behind which nothing is read; a name of 16 bytes
    ∷ becomes (text (block_of a [] ++ (root_word ∷ block_of sixteen []) ++ (motion_word ∷ open_word ∷ [])))
    (2 ∷ label a ++ sixteen ++ (0 ∷ 0 ∷ 2 ∷ 255 ∷ 255 ∷ []))
    -- 19: nothing; no root; MOTION before a root; no closing brace; ROOT in a block; a closing brace too many
    ∷ refuses [] BadHierarchy
    ∷ refuses (hierarchy_word ∷ []) BadHierarchy
    ∷ refuses (hierarchy_word ∷ motion_word ∷ []) BadHierarchy
    ∷ refuses (text (a ∷ open_word ∷ offset_word ∷ a ∷ a ∷ a ∷ channels_word ∷ nought ∷ [])) BadHierarchy
    ∷ refuses (text (block_of a (root_word ∷ block_of b []))) BadHierarchy
    ∷ refuses (text (block_of a [] ++ (close_word ∷ []))) BadHierarchy
    -- 19: one channel less than counted; a count that is not digits alone
    ∷ refuses (text (a ∷ open_word ∷ offset_word ∷ a ∷ a ∷ a ∷ channels_word ∷ (50 ∷ []) ∷ a ∷ [])) BadHierarchy
    ∷ refuses (text (a ∷ open_word ∷ offset_word ∷ a ∷ a ∷ a ∷ channels_word ∷ (48 ∷ 120 ∷ []) ∷ close_word ∷ [])) BadHierarchy
    -- 20 at a name, before what follows it: an earlier name; a byte above 126; more than 16 bytes
    ∷ refuses (text (block_of a (joint_word ∷ a ∷ []))) BadName
    ∷ refuses (text ((127 ∷ []) ∷ [])) BadName
    ∷ refuses (text ((126 ∷ sixteen) ∷ [])) BadName
    -- 19 before 20, where the form is broken before the name is met
    ∷ refuses (hierarchy_word ∷ (126 ∷ sixteen) ∷ []) BadHierarchy
    -- 9: a byte less than the sheet has
    ∷ record { text = spaced 13 (text (block_of a [])); out = room 20; answer = Err OutTooShort; left = room 20 }
    ∷ []
