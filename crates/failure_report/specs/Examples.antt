-- Worked examples, decided by computation.
use Rattle.std.specs.Prelude.{ℕ, ◌≡◌, refl, List, [], ◌∷◌, map}
use Rattle.prelude.specs.Choice.{find}
use Rattle.digits.specs.Digits.{decimal_by}
use Rattle.prelude.specs.Text.{bytes}
use Rattle.source.specs.Bytes.{span}
use Rattle.failure_report.specs.Place.{newlines_before, line_start, line_of, column_of, line_from, visible}
use Rattle.failure_report.specs.Failure.{words_of, place_text, failure_text}

-- ---- Lines and columns (O1)

abbrev place : List ℕ → ℕ → ℕ × ℕ
place source at = (line_of source at, column_of source at)

-- a newline belongs to the line that it ends; behind the last one, and beyond the end, there is a line too
places :
    map (place (bytes "AB\nC\n")) (0 ∷ 1 ∷ 2 ∷ 3 ∷ 4 ∷ 5 ∷ 7 ∷ [])
    ≡ (1, 1) ∷ (1, 2) ∷ (1, 3) ∷ (2, 1) ∷ (2, 2) ∷ (3, 1) ∷ (3, 3) ∷ []
unfolding newlines_before line_start
places = refl

no_newline_at_the_end : map (place (bytes "A\nBC")) (3 ∷ 4 ∷ 6 ∷ []) ≡ (2, 2) ∷ (2, 3) ∷ (2, 5) ∷ []
unfolding newlines_before line_start
no_newline_at_the_end = refl

empty_lines : map (place (bytes "\n\nA")) (0 ∷ 1 ∷ 2 ∷ 3 ∷ []) ≡ (1, 1) ∷ (2, 1) ∷ (3, 1) ∷ (3, 2) ∷ []
unfolding newlines_before line_start
empty_lines = refl

empty_source : map (place []) (0 ∷ 2 ∷ []) ≡ (1, 1) ∷ (1, 3) ∷ []
unfolding newlines_before line_start
empty_source = refl

-- a carriage return, a tab, a vertical tab, a form feed and a zero end no line
no_line_ends : map (place (65 ∷ 13 ∷ 9 ∷ 11 ∷ 12 ∷ 0 ∷ 66 ∷ [])) (1 ∷ 2 ∷ 3 ∷ 6 ∷ []) ≡ (1, 2) ∷ (1, 3) ∷ (1, 4) ∷ (1, 7) ∷ []
unfolding newlines_before line_start
no_line_ends = refl

-- ---- A line and its bytes (O2)

-- its newline is not of it; the last line ends with the source; an empty one, and one beyond the end
lines : map (line_from (bytes "AB\n\nCD")) (0 ∷ 1 ∷ 3 ∷ 4 ∷ 5 ∷ 6 ∷ 9 ∷ []) ≡ bytes "AB" ∷ bytes "B" ∷ [] ∷ bytes "CD" ∷ bytes "D" ∷ [] ∷ [] ∷ []
unfolding span
lines = refl

-- a carriage return and a tab stand in their line
whole_line : line_from (65 ∷ 13 ∷ 9 ∷ 66 ∷ 10 ∷ 67 ∷ []) 0 ≡ 65 ∷ 13 ∷ 9 ∷ 66 ∷ []
unfolding span
whole_line = refl

shapes : map visible (0 ∷ 9 ∷ 10 ∷ 31 ∷ 32 ∷ 65 ∷ 126 ∷ 127 ∷ 255 ∷ []) ≡ 63 ∷ 63 ∷ 63 ∷ 63 ∷ 32 ∷ 65 ∷ 126 ∷ 63 ∷ 63 ∷ []
unfolding visible
shapes = refl

-- ---- The words (O3)

words :
    map words_of (1 ∷ 2 ∷ 7 ∷ 14 ∷ 20 ∷ 22 ∷ 23 ∷ 24 ∷ 25 ∷ 26 ∷ 27 ∷ [])
    ≡ bytes "the image has not 16,384 words" ∷ bytes "scratch has fewer than 6,144 words" ∷ bytes "name undeclared or of the wrong kind" ∷ bytes "more initial values than elements"
    ∷ bytes "the word at P is no instruction; often a subscript left its array" ∷ bytes "budget above 1,000,000 steps" ∷ bytes "P is outside the 16,384 words" ∷ bytes "more than 32,767 litres"
    ∷ bytes "a farm's name is empty, without a newline, over 14 bytes, or has bytes outside 32 to 126" ∷ bytes "output too short, more than 1,000 farms, or not as many names as litres"
    ∷ bytes "cooperative above 15" ∷ []
unfolding words_of find
words = refl

abbrev no_words : List ℕ
no_words = bytes "no failure has this number"

no_words_lem : map words_of (0 ∷ 15 ∷ 19 ∷ 28 ∷ []) ≡ no_words ∷ no_words ∷ no_words ∷ no_words ∷ []
unfolding words_of find
no_words_lem = refl

-- ---- A failure (O3)

-- at the start of a line
first_column : failure_text (bytes ".BEGIN\nA = 1\n.END") 7 7 ≡ bytes "line 2, column 1: 7, name undeclared or of the wrong kind\nA = 1\n^\n"
unfolding failure_text place_text words_of find newlines_before line_start span visible decimal_by
first_column = refl

-- in its middle: the tab before the place is shown as `?`, so the caret stands below the A
in_the_middle : failure_text (bytes ".BEGIN\nX =\tA .END\n") 7 11 ≡ bytes "line 2, column 5: 7, name undeclared or of the wrong kind\nX =?A .END\n    ^\n"
unfolding failure_text place_text words_of find newlines_before line_start span visible decimal_by
in_the_middle = refl

-- the first line, its column of two digits, and a number of two digits
first_line : failure_text (bytes ".BEGIN .ARRAY T[1](1, 2); .END") 14 22 ≡ bytes "line 1, column 23: 14, more initial values than elements\n.BEGIN .ARRAY T[1](1, 2); .END\n                      ^\n"
unfolding failure_text place_text words_of find newlines_before line_start span visible decimal_by
first_line = refl

-- a source that ends too soon: at its end, on the line behind the last newline
at_the_end : failure_text (bytes ".BEGIN\n") 6 7 ≡ bytes "line 2, column 1: 6, unexpected here, or the source ends too soon; a missing ;, .ELSE or .END shows at what follows it\n\n^\n"
unfolding failure_text place_text words_of find newlines_before line_start span visible decimal_by
at_the_end = refl

of_nothing : failure_text [] 6 0 ≡ bytes "line 1, column 1: 6, unexpected here, or the source ends too soon; a missing ;, .ELSE or .END shows at what follows it\n\n^\n"
unfolding failure_text place_text words_of find newlines_before line_start span visible decimal_by
of_nothing = refl
