-- Texts: lists of bytes.
use Rattle.std.specs.Prelude.{ℕ, Bool, true, ◌&&◌, List, [], ◌∷◌}
use Prim.Native.Char.{code}
use Prim.Native.String.{String, [] as []ˢ, ◌∷◌ as ◌∷ˢ◌}

-- a string's bytes: keywords, printed words and examples are written as strings
abbrev pub bytes : String → List ℕ
bytes []ˢ = []
bytes (c ∷ˢ cs) = code c ∷ bytes cs

-- whether every byte passes a test
unfoldable pub all : (ℕ → Bool) → List ℕ → Bool
all p [] = true
all p (b ∷ bs) = p b && all p bs
