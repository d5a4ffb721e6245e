-- Matchings, over a sheet's n joints, its square of bands t and offered partner bytes m; the counts and the numbers of pairs.
use Rattle.std.specs.Prelude.{Bool, not, Option, ◌&&◌, ◌||◌, List, ℕ, ◌+◌, ◌-◌, ◌*◌, ◌/◌, ltb, eqb, length, get_or}
use Rattle.base.specs.Below.{all_below, count_below}
use Rattle.sections.specs.Joints.{no_joint, joint_in}
use Rattle.sheet.specs.Square.{at}

-- the byte of an unpaired joint
abbrev pub alone : ℕ
alone = no_joint

abbrev pub partner : List ℕ → ℕ → ℕ
partner m a = get_or m a alone

abbrev pub is_alone : List ℕ → ℕ → Bool
is_alone m a = eqb (partner m a) alone

-- .. if a has one
abbrev pub partner_of : List ℕ → ℕ → Option ℕ
partner_of = joint_in

-- a has the partner p: a joint that a lists and whose partner is a
unfoldable pub is_paired : ℕ → List (List ℕ) → List ℕ → ℕ → ℕ → Bool
is_paired n t m a p = ltb p n && (eqb (partner m p) a && ltb 0 (at t a p))

unfoldable pub is_placed : ℕ → List (List ℕ) → List ℕ → ℕ → Bool
is_placed n t m a = is_alone m a || is_paired n t m a (partner m a)

-- a byte for each joint, and each joint unpaired or paired
unfoldable pub is_matching : ℕ → List (List ℕ) → List ℕ → Bool
is_matching n t m = eqb (length m) n && all_below n (is_placed n t m)

-- the joints that partner bytes pair, those that they leave unpaired, and the count of pairs
unfoldable pub paired_joints : List ℕ → ℕ
paired_joints m = count_below (length m) (λ a. not (is_alone m a))

unfoldable pub alone_count : List ℕ → ℕ
alone_count m = count_below (length m) (is_alone m)

abbrev pub pair_count : List ℕ → ℕ
pair_count m = paired_joints m / 2

-- the number of the pair of a and b, a below b
abbrev pub pair_number : ℕ → ℕ → ℕ
pair_number a b = b * (b - 1) / 2 + a
