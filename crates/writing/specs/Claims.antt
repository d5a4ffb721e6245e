-- What a number's decimal is, said of its bytes; and what writing leaves of a buffer.
use Rattle.std.specs.Prelude.{◌≡◌, List, [], ◌∷◌, ◌++◌, ℕ, ◌+◌, ◌*◌, ◌-◌, ◌≤◌, ◌<◌, length, take, drop, get_or}
use Rattle.writing.specs.Written.{Wrote}
use Rattle.writing.specs.Decimal.{decimal}

-- the value of digits, the last of which stands for ones: each digit makes those before it worth ten times as much
unfoldable pub value_after : ℕ → List ℕ → ℕ
value_after v [] = v
value_after v (b ∷ bs) = value_after (10 * v + (b - 48)) bs

-- a number's decimal: digits '0' to '9' only, whose value is the number, and the first is '0' only in the decimal of 0
pub record IsDecimal (k : ℕ) (bytes : List ℕ) : Type 0 where
  pub value : value_after 0 bytes ≡ k
  pub digits : (i : ℕ) → i < length bytes → (48 ≤ get_or bytes i 0) × (get_or bytes i 0 ≤ 57)
  pub no_nought : get_or bytes 0 0 ≡ 48 → (k ≡ 0) × (length bytes ≡ 1)

abbrev pub DecimalMeans : Type 0
DecimalMeans = (k : ℕ) → k < 1000 → IsDecimal k (decimal k)

-- bytes written within a buffer: those before them and those behind them stay, and so does its length
abbrev pub WritesInPlace : Type 0
WritesInPlace = (l l₁ bytes : List ℕ) (i i₁ : ℕ) → Wrote l i bytes l₁ i₁ → i + length bytes ≤ length l
    → (l₁ ≡ take i l ++ bytes ++ drop i₁ l) × (length l₁ ≡ length l)
