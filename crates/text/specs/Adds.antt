-- What a method of `Text` promises.
use Rattle.std.specs.Prelude.{ℕ, ◌≤◌, ◌≡◌, List, [], ◌∷◌, length, set}
use Rattle.text.specs.Wrote.{largest, up_of, Wrote}
use Rattle.text.specs.declared.Text.{Text}

-- a buffer and a length, with a text behind it: each byte is stored at the length, where the buffer has one, and the length is one more
unfoldable pub added : List ℕ × ℕ → List ℕ → List ℕ × ℕ
added t [] = t
added t (b ∷ bs) = added (set t.0 t.1 b, up_of t.1) bs

-- A TEXT ADDED behind what stands in the buffer
pub record Adds (before after : Text) (text : List ℕ) : Type 0 where
  -- the buffer is the one that was lent
  pub same_buffer : after.out.ghost_name ≡ before.out.ghost_name
  pub all : (after.out.now, after.len) ≡ added (before.out.now, before.len) text

-- so a text stands where the length was; no buffer or length of the machine's is larger
pub record TextLaws : Type 0 where
  pub stands : (before after : Text) (text : List ℕ) → before.len ≤ largest → length before.out.now ≤ largest → Adds before after text
      → Wrote before.out.now after.out.now before.len after.len text
