-- Bytes written into a buffer.
use Rattle.std.specs.Prelude.{◌≡◌, List, [], ◌∷◌, ◌++◌, ℕ, suc, ◌+◌, ◌≤◌, length, drop, set}
use Rattle.writing.specs.declared.Writer.{Writer}

-- the buffer l with the bytes at i and the places behind it
unfoldable pub written : List ℕ → ℕ → List ℕ → List ℕ
written l i [] = l
written l i (b ∷ bs) = written (set l i b) (suc i) bs

-- The buffer was `before`; with the bytes written at `place` it is `after`, and `next` is the place behind them.
pub record Wrote (before : List ℕ) (place : ℕ) (bytes : List ℕ) (after : List ℕ) (next : ℕ) : Type 0 where
  pub buffer : after ≡ written before place bytes
  pub behind : next ≡ place + length bytes

-- The writer's buffer has room for the text.
pub record HasRoom (w : Writer) (text : List ℕ) : Type 0 where
  pub fits : w.at + length text ≤ length w.bytes.now

-- The writer wrote the text, and is lent the same buffer as before.
pub record Puts (before : Writer) (text : List ℕ) (after : Writer) : Type 0 where
  pub wrote : Wrote before.bytes.now before.at text after.bytes.now after.at
  pub same_buffer : after.bytes.ghost_name ≡ before.bytes.ghost_name

-- the bytes that begin a buffer, and the rest of it unchanged
abbrev pub over : List ℕ → List ℕ → List ℕ
over bytes out = bytes ++ drop (length bytes) out
