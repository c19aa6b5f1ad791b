-- Worked examples, decided by computation.
use Rattle.std.specs.Prelude.{Result, Ok, Err, ℕ, zero, suc, ◌≡◌, refl, Bool, true, false, List, [], ◌∷◌, ◌++◌, map, replicate}
use Prim.Native.String.{String}
use Rattle.std.proofs.Math.Option.{Option, none, some}
use Rattle.prelude.specs.Text.{bytes, all}
use Rattle.prelude.specs.Sum.{sum}
use Rattle.digits.specs.Digits.{decimal_by, left_in, right_in, digits_from, shown}
use Rattle.page.specs.Names.{Name, names_of, good_name}
use Rattle.page.specs.Page.{farm_line, lines_from, page_of, first_failure, failure_of, answer_of, output_after}
use Rattle.page.specs.PageLaws.{name_shown, litres_shown, total_shown}
use Rattle.page.specs.Failures.{number_of, words_of}
use Rattle.page.specs.declared.failure.Failure.{Failure}
use Rattle.page.specs.declared.failure.Failure.TheVariants.{BadLitres, BadName, BadLists}

-- ---- The page of three farms (B1 to B3)

abbrev farms : List ℕ
farms = bytes "Upper Field\nMill Lane\nLong Acre\n"

abbrev delivered : List ℕ
delivered = 2140 ∷ 1875 ∷ 960 ∷ []

three_farms :
    page_of farms delivered
    ≡ bytes "Upper Field      2140     2140\n"
    ++ bytes "Mill Lane        1875     4015\n"
    ++ bytes "Long Acre         960     4975\n"
unfolding names_of lines_from farm_line left_in right_in decimal_by
three_farms = refl

-- read back from its bytes
abbrev third : List ℕ → List ℕ × Option ℕ × Option ℕ
third page = (name_shown 2 page, litres_shown 2 page, total_shown 2 page)

three_farms_read : third (page_of farms delivered) ≡ (bytes "Long Acre     ", some 960, some (sum delivered))
unfolding names_of lines_from farm_line left_in right_in decimal_by shown digits_from sum
three_farms_read = refl

-- the widest line that there is, and the narrowest
abbrev widest : List ℕ
widest = bytes "ABCDEFGHIJKLMN"

widest_line : farm_line widest 32767 32767000 ≡ bytes "ABCDEFGHIJKLMN  32767 32767000\n"
unfolding farm_line left_in right_in decimal_by
widest_line = refl

narrowest_line : farm_line (bytes "~") 0 0 ≡ bytes "~                   0        0\n"
unfolding farm_line left_in right_in decimal_by
narrowest_line = refl

-- ---- The names (B4)

abbrev shape : Name → List ℕ × Bool
shape n = (n.text, n.ended)

-- no bytes are no name; a newline alone ends an empty one; bytes behind the last newline are an unended one
names :
    map (λ s. map shape (names_of (bytes s))) ("" ∷ "\n" ∷ "A\nB C\n" ∷ "A\n\nB" ∷ [])
    ≡ [] ∷ ((bytes "", true) ∷ []) ∷ ((bytes "A", true) ∷ (bytes "B C", true) ∷ []) ∷ ((bytes "A", true) ∷ (bytes "", true) ∷ (bytes "B", false) ∷ []) ∷ []
unfolding names_of
names = refl

-- ---- Which names are good (F25)

good_names : map (λ t. good_name (record { text = t; ended = true })) (bytes "A" ∷ bytes " " ∷ bytes "~" ∷ widest ∷ []) ≡ true ∷ true ∷ true ∷ true ∷ []
unfolding all
good_names = refl

-- empty, of 15 bytes, and with a byte just outside the printable ones
bad_names : map (λ t. good_name (record { text = t; ended = true })) ([] ∷ replicate 15 88 ∷ (65 ∷ 31 ∷ []) ∷ (65 ∷ 127 ∷ []) ∷ (9 ∷ []) ∷ (255 ∷ []) ∷ []) ≡ false ∷ false ∷ false ∷ false ∷ false ∷ false ∷ []
unfolding all
bad_names = refl

unended_name : good_name (record { text = bytes "A"; ended = false }) ≡ false
unended_name = refl

-- ---- Which failure (F24 to F26, J14)

-- what is handed in, and what is answered: the length or the number
abbrev Case : Type 0
Case = String × List ℕ × ℕ × Result ℕ ℕ

answered : Case → Result ℕ ℕ
answered c = answer_of (bytes c.0) c.1 c.2

abbrev cases : List Case
cases =
    -- nothing handed in makes an empty page, into nothing
    ("", [], 0, Ok 0)
    ∷ ("A\n", 0 ∷ [], 31, Ok 31)
    -- the limits of the litres and of the output
    ∷ ("A\n", 32767 ∷ [], 32, Ok 31)
    ∷ ("A\n", 32768 ∷ [], 31, Err 24)
    ∷ ("A\n", 65535 ∷ [], 31, Err 24)
    ∷ ("A\n", 1 ∷ [], 30, Err 26)
    ∷ ("A\nB\n", 1 ∷ 1 ∷ [], 61, Err 26)
    ∷ ("A\nB\n", 1 ∷ 1 ∷ [], 62, Ok 62)
    -- an unended name, an empty one
    ∷ ("A", 1 ∷ [], 31, Err 25)
    ∷ ("A\n\n", 1 ∷ 1 ∷ [], 62, Err 25)
    -- unequal lists; what has no partner is not judged
    ∷ ("A\nB\n", 1 ∷ [], 62, Err 26)
    ∷ ("A\n\n", 1 ∷ [], 62, Err 26)
    ∷ ("A\nB", 1 ∷ [], 62, Err 26)
    ∷ ("A\n", 1 ∷ 40000 ∷ [], 62, Err 26)
    ∷ ("", 40000 ∷ [], 62, Err 26)
    -- in one farm the litres come first; of two farms the first; the lists come last
    ∷ ("\n", 40000 ∷ [], 31, Err 24)
    ∷ ("\nB\n", 1 ∷ 40000 ∷ [], 62, Err 25)
    ∷ ("A\n\n", 40000 ∷ 1 ∷ [], 62, Err 24)
    ∷ ("A\n\n", 1 ∷ 1 ∷ [], 0, Err 25)
    ∷ ("A\nB\n", 1 ∷ 40000 ∷ 1 ∷ [], 0, Err 24)
    ∷ []

every_case : map answered cases ≡ map (λ c. c.3) cases
unfolding answer_of failure_of first_failure names_of lines_from farm_line left_in right_in decimal_by all answered
every_case = refl

-- ---- The failures, by number and in words (F24 to F26, O3)

abbrev failures : List Failure
failures = BadLitres ∷ BadName ∷ BadLists ∷ []

numbers : map number_of failures ≡ 24 ∷ 25 ∷ 26 ∷ []
numbers = refl

words :
    map words_of failures
    ≡ bytes "more than 32,767 litres"
    ∷ bytes "a farm's name is empty, without a newline, over 14 bytes, or has bytes outside 32 to 126"
    ∷ bytes "output too short, more than 1,000 farms, or not as many names as litres"
    ∷ []
words = refl

-- ---- Behind the thousandth farm (F26, J14)

-- so many farms called A, then another name
abbrev and_one : ℕ → List ℕ → List ℕ
and_one zero name = name
and_one (suc n) name = 65 ∷ 10 ∷ and_one n name

abbrev behind : List ℕ → List ℕ → Option ℕ
behind name litres = failure_of (and_one 1000 name) (replicate 1000 32767 ++ litres) 31031

-- none behind it; one that is good, has a bad name, has bad litres
thousands :
    behind [] [] ∷ behind (bytes "A\n") (1 ∷ []) ∷ behind (bytes "\n") (1 ∷ []) ∷ behind (bytes "A\n") (32768 ∷ []) ∷ []
    ≡ none ∷ some 26 ∷ some 25 ∷ some 24 ∷ []
unfolding failure_of first_failure names_of all
thousands = refl

-- ---- The output (B5)

-- what stood behind a page stays; without a page all of it
outputs :
    map (λ l. output_after (bytes "A\n") (l ∷ []) (replicate 33 35)) (7 ∷ 32768 ∷ [])
    ≡ (bytes "A                   7        7\n" ++ bytes "##") ∷ replicate 33 35 ∷ []
unfolding output_after failure_of first_failure names_of lines_from farm_line left_in right_in decimal_by all
outputs = refl
