-- A table of worked cases: a row is a case in words and the claim that it makes, mostly `got ≡ wanted`. A claim is a type, so that a row may
-- also speak of every state or clock; a row is added by its line in the list and its proof at the same place.
use Prim.Native.String.{String}
use Rattle.std.specs.Prelude.{List, [], ◌∷◌}

pub record Case : Type 1 where
  pub what : String
  pub claim : Type 0

abbrev pub case : String → Type 0 → Case
case what claim = record { what = what; claim = claim }

-- every row of the table holds
abbrev pub Hold : List Case → Type 0
Hold [] = Unit {0}
Hold (c ∷ cs) = c.claim × Hold cs
