-- What emission promises of a part of the source.
use Rattle.std.specs.Prelude.{ℕ, ◌+◌, ◌≤◌, ◌<◌, ◌≡◌, false, List, ◌∷◌, length, get_or, set}
use Rattle.instruction.specs.Opcode.{JMP}
use Rattle.layout.specs.Words.{Sym, ◌⧺◌}
use Rattle.layout.specs.Map.{reference}
use Rattle.layout.specs.Emission.{Emitted, last_address, Bases, emit_all}

-- the words of a part, by the address of the first
abbrev pub WordsAt : Type 0
WordsAt = ℕ → List Sym

-- what every part keeps, read or failed: the image's length and its words below the address where the part began; and the address does not fall
pub record Kept (a b : Emitted) : Type 0 where
  pub long : length b.image ≡ length a.image
  pub below : (k : ℕ) → k < a.next → get_or b.image k 0 ≡ get_or a.image k 0
  pub grows : a.next ≤ b.next

-- what a part that failed keeps of the image, where it answers no output
pub record KeptImage (a : Emitted) (image : List ℕ) : Type 0 where
  pub long : length image ≡ length a.image
  pub below : (at : ℕ) → at < a.next → get_or image at 0 ≡ get_or a.image at 0

-- from a to b the words w are emitted. Where b is at the last address, so many words or more were to be emitted, and of the image only what is kept is said: a sector that is judged then fails
pub record Lays (f : Bases) (a b : Emitted) (w : WordsAt) : Type 0 where
  pub kept : Kept a b
  pub fits : b.next < last_address → b ≡ emit_all f a (w a.next)
  pub counts : b.next < last_address → b.next ≡ a.next + length (w a.next)
  pub over : last_address ≤ b.next → last_address ≤ a.next + length (w a.next)

-- words with one forward jump, whose target is known later: until then it is 0, and `hole` is its address
pub record ForwardJump (f : Bases) (a b : Emitted) (w : ℕ → ℕ → List Sym) (hole : ℕ) : Type 0 where
  pub before : WordsAt
  pub rest : WordsAt
  pub cut : (at z : ℕ) → w at z ≡ before at ⧺ Sym.jump z ∷ rest at
  pub lays : Lays f a b (λ at. w at 0)
  pub place : b.next < last_address → hole ≡ a.next + length (before a.next)
  pub inside : a.next ≤ hole

-- the jump filled in
abbrev pub filled : List ℕ → ℕ → ℕ → List ℕ
filled image hole z = set image hole (reference JMP false z)
