-- What the tests of Following.antt mean, that paired joints have equal depth if all pairs follow, and what a caller may conclude from the call's answer.
use Rattle.std.specs.Prelude.{◌≡◌, true, List, [], ◌⊎◌, ◌≢◌, ◌↔◌, ℕ, ◌+◌, ◌≤◌, ◌<◌, length}
use Rattle.base.specs.Claims.{First}
use Rattle.parents.specs.Parents.{parent_of}
use Rattle.parents.specs.Depths.{depth_of}
use Rattle.parents.specs.Claims.{Lower}
use Rattle.sheet.specs.Format.{joints, third, parents_of}
use Rattle.sheet.specs.Refusals.{sheet_fault}
use Rattle.sheet.specs.Square.{at, square_of, SquarePromise}
use Rattle.sheet.specs.Claims.{OfSheet}
use Rattle.matching.specs.Matchings.{partner, is_matching, pair_count}
use Rattle.matching.specs.Plain.{Matching}
use Rattle.skeleton.specs.Following.{follows, stray_count, follow_count, stray_number}
use Rattle.skeleton.specs.Plain.{Follows, Stray, LowestStray}
use Rattle.refusals.specs.Numbers.{RefusedAs}
use Rattle.skeleton.specs.Answers.{answer_all, answer_astray, follow_faults, follow_of}

abbrev pub FollowsMeans : Type 0
FollowsMeans = (ps m : List ℕ) (a b : ℕ) → follows ps m a b ≡ true ↔ Follows (parent_of ps) (partner m) a b

-- none is counted exactly if every pair follows; else the number is the lowest of a pair that does not
abbrev pub StraysNone : Type 0
StraysNone = (ps m : List ℕ) → stray_count ps m ≡ 0 ↔ ((a b : ℕ) → Stray (length m) (parent_of ps) (partner m) a b → ⊥)

abbrev pub StraysLowest : Type 0
StraysLowest = (ps m : List ℕ) → 1 ≤ stray_count ps m → LowestStray (length m) (parent_of ps) (partner m) (stray_number ps m)

-- each pair of a matching is counted once: those that do not follow and those that do are all of them
abbrev pub StraysCounted : Type 0
StraysCounted = (n : ℕ) (t : List (List ℕ)) (ps m : List ℕ) → SquarePromise n t → is_matching n t m ≡ true
    → stray_count ps m + follow_count ps m ≡ pair_count m

-- IF ALL PAIRS FOLLOW, PAIRED JOINTS HAVE EQUAL DEPTH.
abbrev pub DepthsAgree : ℕ → List ℕ → (ℕ → ℕ) → Type 0
DepthsAgree n ps partner = (a : ℕ) → a < n → partner a ≢ 255 → depth_of ps a ≡ depth_of ps (partner a)

abbrev pub EqualDepth : Type 0
EqualDepth = (n : ℕ) (band : ℕ → ℕ → ℕ) (partner : ℕ → ℕ) (ps : List ℕ) → n ≤ 128 → Matching n band partner → Lower ps
    → ((a b : ℕ) → Stray n (parent_of ps) partner a b → ⊥) → DepthsAgree n ps partner

-- THE CALL, for every sheet s and offered pairing m. What it judges: an accepted sheet with parents, and a matching, super-stable or not.
pub record Judged (s m : List ℕ) : Type 0 where
  pub accepted : sheet_fault s ≡ 0
  pub parents : third s ≢ []
  pub matching : (length m ≡ joints s) × Matching (joints s) (at (square_of s)) (partner m)

pub record FollowKeeps (s m : List ℕ) : Type 0 where
  pub first : (k : ℕ) → RefusedAs (follow_of s m) k ↔ First k (follow_faults s m)
  -- refusals number by number and both ways
  pub numbers : (k : ℕ) → RefusedAs (follow_of s m) k → OfSheet k ⊎ (k ≡ 10)
  pub by_sheet : (k : ℕ) → OfSheet k → k ≢ 18 → RefusedAs (follow_of s m) k ↔ (sheet_fault s ≡ k)
  pub by_eighteen : RefusedAs (follow_of s m) 18 ↔ ((sheet_fault s ≡ 18) ⊎ ((sheet_fault s ≡ 0) × (third s ≡ [])))
  pub by_ten : RefusedAs (follow_of s m) 10
      ↔ ((sheet_fault s ≡ 0) × (third s ≢ []) × ((length m ≡ joints s) × Matching (joints s) (at (square_of s)) (partner m) → ⊥))
  -- all pairs follow; or so many do not, and the number is the lowest of one
  pub all : follow_of s m ≡ answer_all ↔ (Judged s m × ((a b : ℕ) → Stray (joints s) (parent_of (parents_of s)) (partner m) a b → ⊥))
  pub astray : (k l : ℕ) → follow_of s m ≡ answer_astray k l
      ↔ (Judged s m × (1 ≤ k) × (k ≡ stray_count (parents_of s) m) × LowestStray (joints s) (parent_of (parents_of s)) (partner m) l)
  -- the other pairs follow
  pub counted : (k l : ℕ) → follow_of s m ≡ answer_astray k l → k + follow_count (parents_of s) m ≡ pair_count m
  pub few : (k l : ℕ) → follow_of s m ≡ answer_astray k l → (k ≤ 64) × (l ≤ 8127)
  -- where all follow, paired joints have equal depth
  pub equal_depth : follow_of s m ≡ answer_all → DepthsAgree (joints s) (parents_of s) (partner m)

abbrev pub FollowsKept : Type 0
FollowsKept = (s m : List ℕ) → FollowKeeps s m
