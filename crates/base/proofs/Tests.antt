-- What a test tells of its parts, and its parts of it; the library's laws by the names used here.
use mathlib.Core.Path.{◌≡◌, sym, ◌∙◌}
use mathlib.Core.Bool.{Bool, true, false, true≢false, false≢true}
use Prim.Native.Nat.{ℕ}
use native.Mathlib.Omega.{arith}
use lib.Dec.{ltb}
use borrow.Author.Tests.{lt-ltb, le-ltb}
pub use Rattle.std.proofs.lemmas.Bool.{and_parts as and_true, or_parts as or_false, or_cases as or_true, or_right, false_from_ne_true as not_so}

pub never : (b : Bool) → b ≡ true → b ≡ false → ⊥
never true p q = true≢false q
never false p q = false≢true p

-- a call's answer r, tested as `!r`
pub said_yes : {r b : Bool} → r ≡ b → r ≡ true → b ≡ true
said_yes e h = sym e ∙ h

pub said_no : {r b : Bool} → r ≡ b → r ≡ false → b ≡ false
said_no e h = sym e ∙ h

-- a band of 0 is unlisted
pub unlisted : (x : ℕ) → x ≡ 0 → ltb 0 x ≡ false
unlisted x h = le-ltb 0 x (omega arith)

pub listed : (x : ℕ) → (x ≡ 0 → ⊥) → ltb 0 x ≡ true
listed x h = lt-ltb 0 x (omega arith)
