-- Worked examples of the call, bytes and all: pairs that follow and pairs that do not, and which refusal comes first.
use Rattle.std.specs.Prelude.{◌≡◌, cond, List, [], ◌∷◌, ◌++◌, ℕ, Option, Result, Err, ◌+◌, ◌/◌, ◌%◌, eqb, length, replicate}
use Rattle.base.specs.Below.{joined}
use Rattle.refusals.specs.declared.Refusal.{Refusal}
use Rattle.refusals.specs.declared.Refusal.TheVariants.{SheetCutShort, BadBand, BytesAfterSheet, NoPairingOffered, BadParents}
use Rattle.skeleton.specs.declared.Strays.{Strays}
use Rattle.skeleton.specs.Answers.{answer_all, answer_astray, follow_of}

-- A ROW: a sheet, a pairing, and the answer.
pub record Row : Type 0 where
  pub sheet : List ℕ
  pub pairing : List ℕ
  pub answer : Result (Option Strays) Refusal

abbrev pub row : List ℕ → List ℕ → Result (Option Strays) Refusal → Row
row s m answer = record { sheet = s; pairing = m; answer = answer }

abbrev pub Holds : Row → Type 0
Holds r = follow_of r.sheet r.pairing ≡ r.answer

-- n joints a, b, c and so on, who all list each other in band 1, and a third section
abbrev pub letters : ℕ → List ℕ
letters n = joined n (λ i. (97 + i) ∷ replicate 15 0)

abbrev pub everyone : ℕ → List ℕ
everyone n = joined n (λ a. joined n (λ b. cond (eqb a b) [] (a ∷ b ∷ 1 ∷ [])))

abbrev pub counted : List ℕ → List ℕ
counted bytes = (length bytes / 3 % 256) ∷ (length bytes / 3 / 256) ∷ bytes

unfoldable pub sheet_of : ℕ → List ℕ → List ℕ
sheet_of n third = n ∷ letters n ++ counted (everyone n) ++ third

-- hips, and a left and a right arm with a hand each: 0; 1 and 2 below 0; 3 below 1, 4 below 2
abbrev pub arms : List ℕ
arms = sheet_of 5 (5 ∷ 255 ∷ 0 ∷ 0 ∷ 1 ∷ 2 ∷ [])

-- two roots, 0 and 2, and 1 below 0; a child of each of two roots
abbrev pub roots : List ℕ
roots = sheet_of 3 (3 ∷ 255 ∷ 0 ∷ 255 ∷ [])

abbrev pub two_roots : List ℕ
two_roots = sheet_of 4 (4 ∷ 255 ∷ 255 ∷ 0 ∷ 1 ∷ [])

abbrev pub rows : List Row
rows =
    -- arms and hands: parents that are one joint, and parents that are paired together
    row arms (255 ∷ 2 ∷ 1 ∷ 4 ∷ 3 ∷ []) answer_all
    -- the hands alone: their parents are not paired; a hand with the other arm, twice, and the lower number is that of 2 and 3
    ∷ row arms (255 ∷ 255 ∷ 255 ∷ 4 ∷ 3 ∷ []) (answer_astray 1 9)
    ∷ row arms (255 ∷ 4 ∷ 3 ∷ 2 ∷ 1 ∷ []) (answer_astray 2 5)
    -- the hips with an arm, and the hands: two pairs, the lower number is that of 0 and 2
    ∷ row arms (2 ∷ 255 ∷ 0 ∷ 4 ∷ 3 ∷ []) (answer_astray 2 1)
    -- nobody is paired; no joint
    ∷ row arms (255 ∷ 255 ∷ 255 ∷ 255 ∷ 255 ∷ []) answer_all
    ∷ row (sheet_of 0 (0 ∷ [])) [] answer_all
    -- two roots follow; a root and the child of a root that is unpaired do not, nor do a root and its own child
    ∷ row roots (2 ∷ 255 ∷ 0 ∷ []) answer_all
    ∷ row roots (255 ∷ 2 ∷ 1 ∷ []) (answer_astray 1 2)
    ∷ row roots (1 ∷ 0 ∷ 255 ∷ []) (answer_astray 1 0)
    -- the children of two roots follow if the roots are paired
    ∷ row two_roots (1 ∷ 0 ∷ 3 ∷ 2 ∷ []) answer_all
    ∷ row two_roots (255 ∷ 255 ∷ 3 ∷ 2 ∷ []) (answer_astray 1 5)
    -- 18 for a sheet without parents, before 10; 10 for what is no matching
    ∷ row (sheet_of 3 []) (255 ∷ 255 ∷ 255 ∷ []) (Err BadParents)
    ∷ row (sheet_of 3 []) [] (Err BadParents)
    ∷ row (sheet_of 0 []) [] (Err BadParents)
    ∷ row roots [] (Err NoPairingOffered)
    ∷ row roots (1 ∷ 2 ∷ 1 ∷ []) (Err NoPairingOffered)
    -- the sheet's own first: a band of 128, and no parents; a parent that is not lower, another count, the section cut short, bytes after it
    ∷ row (2 ∷ letters 2 ++ (1 ∷ 0 ∷ 0 ∷ 1 ∷ 128 ∷ [])) [] (Err BadBand)
    ∷ row (sheet_of 3 (3 ∷ 255 ∷ 1 ∷ 255 ∷ [])) [] (Err BadParents)
    ∷ row (sheet_of 3 (2 ∷ 255 ∷ 0 ∷ [])) [] (Err BadParents)
    ∷ row (sheet_of 3 (3 ∷ 255 ∷ 0 ∷ [])) [] (Err SheetCutShort)
    ∷ row (sheet_of 3 (3 ∷ 255 ∷ 0 ∷ 255 ∷ 255 ∷ [])) [] (Err BytesAfterSheet)
    ∷ []
