-- The failures of a page: their numbers and their words.
use Rattle.std.specs.Prelude.{ℕ, List, Result, Ok, Err, codes}
use Rattle.page.specs.declared.failure.Failure.{Failure}
use Rattle.page.specs.declared.failure.Failure.TheVariants.{BadLitres, BadName, BadLists}

-- a farm's litres (F24), its name (F25), the lists or the output (F26)
abbrev pub number_of : Failure → ℕ
number_of BadLitres = 24
number_of BadName = 25
number_of BadLists = 26

-- an answer, with its failure by number
abbrev pub numbered : {A : Type 0} → Result A Failure → Result A ℕ
numbered (Ok a) = Ok a
numbered (Err f) = Err (number_of f)

-- as the table of all failures has them (O3)
abbrev pub words_of : Failure → List ℕ
words_of BadLitres = codes "more than 32,767 litres"
words_of BadName = codes "a farm's name is empty, without a newline, over 14 bytes, or has bytes outside 32 to 126"
words_of BadLists = codes "output too short, more than 1,000 farms, or not as many names as litres"
