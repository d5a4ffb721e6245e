-- Laws of writers: what is put piece by piece is the whole, and room for the whole is room for each piece.
use Rattle.std.proofs.Common.{◌≡◌, refl, ◌∙◌, List, [], ◌∷◌, ◌++◌, ℕ, ◌+◌, ◌≤◌, ◌<◌, length, take, get_or, arith}
use native.Mathlib.Numerals.{add-one}
use lib.ListN.{length-append, length-take}
use lib.Seq.{take-suc}
use Rattle.base.specs.Below.{joined}
use Rattle.base.proofs.Joined.{joined_zero, joined_next, joined_within}
use Rattle.writing.specs.declared.Writer.{Writer}
use Rattle.writing.specs.Written.{HasRoom, Puts, over}
use Rattle.writing.proofs.Writings.{nothing_wrote, wrote_append, wrote_length, front_wrote}

pub nothing_puts : (w : Writer) → Puts w [] w
nothing_puts w = record { wrote = nothing_wrote _ _; same_buffer = refl }

pub puts_append : {w w₁ w₂ : Writer} {a b : List ℕ} → Puts w a w₁ → Puts w₁ b w₂ → Puts w (a ++ b) w₂
puts_append u v = record { wrote = wrote_append u.wrote v.wrote; same_buffer = v.same_buffer ∙ u.same_buffer }

pub room_front : {w : Writer} {a : List ℕ} (b : List ℕ) → HasRoom w (a ++ b) → HasRoom w a
room_front {w} {a} b h = record { fits = omega (arith, h.fits, length-append a b) }

pub room_behind : {w w₁ : Writer} {a b : List ℕ} → HasRoom w (a ++ b) → Puts w a w₁ → HasRoom w₁ b
room_behind {w} {w₁} {a} {b} h u = record { fits = omega (arith, h.fits, length-append a b, wrote_length u.wrote, u.wrote.behind) }

-- IN A LOOP: the parts of 0, 1, 2 and so on
pub joined_starts : (w : Writer) (part : ℕ → List ℕ) → Puts w (joined 0 part) w
joined_starts w part = rw (joined_zero part) (nothing_puts w)

module _ (i : ℕ) (part : ℕ → List ℕ) {w w₁ : Writer} (u : Puts w (joined i part) w₁) where
  pub joined_puts : {w₂ : Writer} → Puts w₁ (part i) w₂ → Puts w (joined (i + 1) part) w₂
  joined_puts v = rw (joined_next i part) (puts_append u v)

  pub joined_room : {n : ℕ} → HasRoom w (joined n part) → i < n → HasRoom w₁ (part i)
  joined_room {n} h l = record { fits = omega (arith, h.fits, joined_within n part i l, wrote_length u.wrote, u.wrote.behind) }

-- .. and a word's bytes
module _ (word : List ℕ) (i : ℕ) (l : i < length word) {w w₁ : Writer} (u : Puts w (take i word) w₁) where
  pub taken_puts : {w₂ : Writer} → Puts w₁ (get_or word i 0 ∷ []) w₂ → Puts w (take (i + 1) word) w₂
  taken_puts v = rw (add-one, take-suc word i 0) (puts_append u v)

  pub taken_room : (b : ℕ) → HasRoom w word → HasRoom w₁ (b ∷ [])
  taken_room b h = record { fits = omega (arith, h.fits, length-take i word, wrote_length u.wrote, u.wrote.behind) }

-- FROM A BUFFER'S START on
module _ {w : Writer} {lent text : List ℕ} (bytes : w.bytes.now ≡ lent) (start : w.at ≡ 0) (fits : length text ≤ length lent) where
  pub new_room : HasRoom w text
  new_room = record { fits = rw (bytes, start) (omega arith) }

  pub new_puts : {w₁ : Writer} → Puts w text w₁ → (w₁.at ≡ length text) × (w₁.bytes.now ≡ over text lent)
  new_puts u = front_wrote text fits (rw (bytes, start) at u.wrote)
