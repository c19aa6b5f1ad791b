-- A failure as it is shown.
use Rattle.std.specs.Prelude.{ℕ, ◌-◌, List, [], ◌∷◌, ◌++◌, map, eqb, replicate}
use Prim.Native.String.{String}
use Rattle.prelude.specs.Choice.{find, given}
use Rattle.digits.specs.Digits.{decimal, newline}
use Rattle.prelude.specs.Text.{bytes}
use Rattle.failure_report.specs.Place.{line_of, column_of, line_start, line_from, visible}

-- the failures in words, by their numbers (O3)
abbrev pub failures : List (ℕ × String)
failures =
    (1, "the image has not 16,384 words")
    ∷ (2, "scratch has fewer than 6,144 words")
    ∷ (3, "source of more than 8,192 bytes")
    ∷ (4, "unknown byte or keyword (lower-case letters, tabs and carriage returns are unknown bytes)")
    ∷ (5, "number out of its range: constants to 32767, -32768 or '177777, sizes to 8192, shifts 1 to 15")
    ∷ (6, "unexpected here, or the source ends too soon; a missing ;, .ELSE or .END shows at what follows it")
    ∷ (7, "name undeclared or of the wrong kind")
    ∷ (8, "name declared already (six characters count), or X")
    ∷ (9, "nesting deeper than 32")
    ∷ (10, "more than 512 live names")
    ∷ (11, "no word left for a global")
    ∷ (12, "more than 512 words in this sector; .NEXTSECTOR begins another")
    ∷ (13, "no room left between the code and the arrays, or no sector left")
    ∷ (14, "more initial values than elements")
    ∷ (20, "the word at P is no instruction; often a subscript left its array")
    ∷ (21, "more than 16 indirect words in a row; often a subscript left its array")
    ∷ (22, "budget above 1,000,000 steps")
    ∷ (23, "P is outside the 16,384 words")
    ∷ (24, "more than 32,767 litres")
    ∷ (25, "a farm's name is empty, without a newline, over 14 bytes, or has bytes outside 32 to 126")
    ∷ (26, "output too short, more than 1,000 farms, or not as many names as litres")
    ∷ (27, "cooperative above 15")
    ∷ []

unfoldable pub words_of : ℕ → List ℕ
words_of number = given (find (eqb number) failures) (λ row. bytes row.1) (λ _. bytes "no failure has this number")

-- its place, its number and its words (O3)
unfoldable pub place_text : List ℕ → ℕ → ℕ → List ℕ
place_text source number at =
    bytes "line " ++ (decimal (line_of source at) ++ (bytes ", column " ++ (decimal (column_of source at) ++ (bytes ": " ++
    (decimal number ++ (bytes ", " ++ (words_of number ++ newline)))))))

-- A FAILURE: that line, the line of the source, and a caret below its place (O3)
unfoldable pub failure_text : List ℕ → ℕ → ℕ → List ℕ
failure_text source number at =
    let start = line_start source at in
    place_text source number at ++ ((map visible (line_from source start) ++ newline) ++ (replicate (at - start) 32 ++ bytes "^\n"))
