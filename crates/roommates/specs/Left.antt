-- What workings write: a pairing, and the entries left.
use Rattle.std.specs.Prelude.{cond, not, List, [], ◌∷◌, ℕ, ◌/◌, ◌%◌, eqb, get_or}
use Rattle.base.specs.Below.{count_below, sum_below, lowest, joined}
use Rattle.matching.specs.Matchings.{alone}
use Rattle.roommates.specs.Lists.{Square, row, is_listed, list_length}

-- The pairing: the one joint on each list, 255 for none.
unfoldable pub partner_on : ℕ → List ℕ → ℕ
partner_on n l = cond (eqb (list_length n l) 0) alone (lowest n (λ b. is_listed l b))

unfoldable pub pairing_of : ℕ → Square → List ℕ
pairing_of n t = joined n (λ a. partner_on n (row t a) ∷ [])

-- how many joints have a list that is not empty
abbrev pub listed_joints : ℕ → Square → ℕ
listed_joints n t = count_below n (λ a. not (eqb (list_length n (row t a)) 0))

-- the entries left, in sheet form: by joint, then by candidate; and how many they are
unfoldable pub entry : ℕ → List ℕ → ℕ → List ℕ
entry a l b = cond (is_listed l b) (a ∷ (b ∷ (get_or l b 0 ∷ []))) []

abbrev pub row_entries : ℕ → ℕ → List ℕ → List ℕ
row_entries n a l = joined n (λ b. entry a l b)

abbrev pub entries : ℕ → Square → List ℕ
entries n t = joined n (λ a. row_entries n a (row t a))

abbrev pub entry_count : ℕ → Square → ℕ
entry_count n t = sum_below n (λ a. list_length n (row t a))

-- the shortened lists: the count of entries, two bytes, low byte first, then the entries
unfoldable pub list_bytes : ℕ → Square → List ℕ
list_bytes n t = (entry_count n t % 256) ∷ ((entry_count n t / 256) ∷ entries n t)
