-- The page, and when there is none.
use Rattle.std.specs.Prelude.{Result, Ok, Err, ℕ, ◌+◌, ◌*◌, ◌≡◌, ◌&&◌, List, [], ◌∷◌, ◌++◌, eqb, leb, ltb, length, drop}
use Rattle.std.proofs.Math.Option.{Option, none, some}
use Rattle.prelude.specs.Choice.{whether, given}
use Rattle.digits.specs.Digits.{newline, left_in, right_in}
use Rattle.page.specs.Names.{Name, names_of, good_name}
use Rattle.page.specs.Failures.{numbered}
use Rattle.page.specs.declared.failure.Failure.{Failure}

-- ---- The lines

abbrev pub space : List ℕ
space = 32 ∷ []

-- a farm's line: its name, its litres and the total so far, each in its columns (B2)
unfoldable pub farm_line : List ℕ → ℕ → ℕ → List ℕ
farm_line name litres total = left_in 14 name ++ (space ++ (right_in 6 litres ++ (space ++ (right_in 8 total ++ newline))))

-- the lines of farms, behind others with so many litres (B1, B3)
unfoldable pub lines_from : ℕ → List Name → List ℕ → List ℕ
lines_from total [] litres = []
lines_from total (n ∷ ns) [] = []
lines_from total (n ∷ ns) (l ∷ ls) = farm_line n.text l (total + l) ++ lines_from (total + l) ns ls

abbrev pub page_of : List ℕ → List ℕ → List ℕ
page_of names litres = lines_from 0 (names_of names) litres

-- ---- The failures

-- what is wrong with a farm: its litres (F24), or else its name (F25)
abbrev pub farm_failure : Name → ℕ → Option ℕ
farm_failure name litres =
    whether (ltb 32767 litres) (λ _. some 24) λ _.
    whether (good_name name) (λ _. none) λ _.
    some 25

-- the failure of the first farm that has one, of those with both a name and litres (J14)
unfoldable pub first_failure : List Name → List ℕ → Option ℕ
first_failure [] litres = none
first_failure (n ∷ ns) [] = none
first_failure (n ∷ ns) (l ∷ ls) = given (farm_failure n l) some (λ _. first_failure ns ls)

-- what is wrong with the lists and the output, of so many bytes (F26)
abbrev pub lists_failure : List Name → List ℕ → ℕ → Option ℕ
lists_failure names litres room =
    whether (eqb (length names) (length litres) && (leb (length names) 1000 && leb (31 * length names) room)) (λ _. none) λ _.
    some 26

-- why there is no page, if there is none: the farms are judged before the lists (J14)
unfoldable pub failure_of : List ℕ → List ℕ → ℕ → Option ℕ
failure_of names litres room = given (first_failure (names_of names) litres) some (λ _. lists_failure (names_of names) litres room)

-- ---- What comes of a call

-- the values of each case of the answer: the page's length, or the failure's number (B5, C5)
unfoldable pub answer_of : List ℕ → List ℕ → ℕ → Result ℕ ℕ
answer_of names litres room = given (failure_of names litres room) Err (λ _. Ok (length (page_of names litres)))

-- the page and what stood behind it, or the output as it was (B5, demand 1g)
unfoldable pub output_after : List ℕ → List ℕ → List ℕ → List ℕ
output_after names litres output =
    given (failure_of names litres (length output)) (λ _. output) λ _.
    page_of names litres ++ drop (length (page_of names litres)) output

-- A CALL OF `page` (demand 1f, 2d)
pub record PageCalled (names litres output : List ℕ) (r : Result ℕ Failure) (output' : List ℕ) : Type 0 where
  pub answered : numbered r ≡ answer_of names litres (length output)
  pub written : output' ≡ output_after names litres output
