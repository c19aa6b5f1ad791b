-- The listing (group P of docs/REFERENCE.md), as bytes.
use Rattle.std.specs.Prelude.{ℕ, suc, List, [], ◌∷◌, ◌++◌, take, drop}
use Rattle.digits.specs.Digits.{octal, decimal, newline}
use Rattle.prelude.specs.Text.{bytes}
use Rattle.compilation.specs.Compile.{Result}
use Rattle.layout.specs.Addresses.{first_global, first_code}

-- the line of each word, from an address on (P2)
unfoldable pub word_lines : List ℕ → ℕ → List ℕ → List ℕ
word_lines letter at [] = []
word_lines letter at (w ∷ ws) = letter ++ (octal at ++ (bytes ":" ++ (octal w ++ (newline ++ word_lines letter (suc at) ws))))

-- an item and its value, ended by a newline (P1)
abbrev pub line : List ℕ → List ℕ → List ℕ
line name value = name ++ (value ++ newline)

-- five lines, then those of the globals and of what is counted from the first word of code on (P1, P2)
unfoldable pub listing_def : Result → List ℕ
listing_def (Result.accepted c) =
    line (bytes "result=") (decimal 0) ++ (line (bytes "at=") (decimal 0) ++ (line (bytes "entry=") (octal c.entry) ++
    (line (bytes "words=") (decimal c.words) ++ (line (bytes "globals=") (decimal c.globals) ++
    (word_lines (bytes "g=") first_global (take c.globals (drop first_global c.image)) ++
    word_lines (bytes "w=") first_code (take c.words (drop first_code c.image)))))))
-- a failure is two lines (P4)
listing_def (Result.failed n at) = line (bytes "result=") (decimal n) ++ line (bytes "at=") (decimal at)
