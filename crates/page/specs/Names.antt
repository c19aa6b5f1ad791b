-- The names of farms, as they are handed in.
use Rattle.std.specs.Prelude.{ℕ, Bool, true, false, ◌&&◌, List, [], ◌∷◌, eqb, length}
use Rattle.prelude.specs.Choice.{whether, between}
use Rattle.prelude.specs.Text.{all}

-- a name, without its newline, and whether it has one
pub record Name : Type 0 where
  pub text : List ℕ
  pub ended : Bool

-- a byte in front of names: one more of the first of them, or, where there is none, an unended name
abbrev pub before : ℕ → List Name → List Name
before b [] = record { text = b ∷ []; ended = false } ∷ []
before b (n ∷ ns) = record { text = b ∷ n.text; ended = n.ended } ∷ ns

-- the names: each ends with a newline; bytes behind the last newline are an unended one (B4)
unfoldable pub names_of : List ℕ → List Name
names_of [] = []
names_of (b ∷ bs) = whether (eqb b 10) (λ _. record { text = []; ended = true } ∷ names_of bs) (λ _. before b (names_of bs))

-- the bytes that a name may have (F25)
abbrev pub is_printable : ℕ → Bool
is_printable b = between 32 126 b

-- a name as it should be: ended, its bytes printable, and 1 to 14 of them (F25)
abbrev pub good_name : Name → Bool
good_name n = n.ended && (all is_printable n.text && between 1 14 (length n.text))
