-- Lines and columns of a source; a newline, and nothing else, ends a line.
use Rattle.std.specs.Prelude.{ℕ, zero, suc, ◌+◌, ◌-◌, Bool, not, List, eqb, get_or, take, drop}
use Rattle.prelude.specs.Choice.{whether, between}
use Rattle.text.specs.Wrote.{up_of}
use Rattle.source.specs.Bytes.{span}

abbrev pub is_newline : ℕ → Bool
is_newline b = eqb b 10

-- how many newlines stand before an offset (O1)
unfoldable pub newlines_before : List ℕ → ℕ → ℕ
newlines_before source zero = 0
newlines_before source (suc n) = newlines_before source n + whether (is_newline (get_or source n 0)) (λ _. 1) (λ _. 0)

-- where the line of an offset begins: behind the newline before it, or at 0 (O1)
unfoldable pub line_start : List ℕ → ℕ → ℕ
line_start source zero = 0
line_start source (suc n) = whether (is_newline (get_or source n 0)) (λ _. suc n) (λ _. line_start source n)

-- the line of an offset, counted from 1 (O1)
abbrev pub line_of : List ℕ → ℕ → ℕ
line_of source at = up_of (newlines_before source at)

-- its column, counted from 1 (O1)
abbrev pub column_of : List ℕ → ℕ → ℕ
column_of source at = up_of (at - line_start source at)

-- how many bytes there are before a newline, or in all
abbrev pub line_length : List ℕ → ℕ
line_length text = span (λ b. not (is_newline b)) text

-- the bytes of the line that begins at an offset
abbrev pub line_from : List ℕ → ℕ → List ℕ
line_from source start = take (line_length (drop start source)) (drop start source)

-- a byte that has no shape of its own is shown as `?`, so that each byte takes one column (O2)
unfoldable pub visible : ℕ → ℕ
visible b = whether (between 32 126 b) (λ _. b) (λ _. 63)
