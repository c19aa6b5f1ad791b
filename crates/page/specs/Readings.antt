-- What the code's functions hand to each other; no rule rests on it.
use Rattle.std.specs.Prelude.{Result, Ok, Err, Option, Some, None, Bool, ℕ, zero, suc, ◌*◌, ◌≤◌, ◌≡◌, List, [], ◌∷◌, true, not, ◌&&◌, eqb, leb, ltb, length}
use Rattle.prelude.specs.Choice.{whether}
use Rattle.page.specs.Names.{Name, is_printable, good_name}

-- the length of the first name, or 0 if it is not as it should be
abbrev pub length_of : List Name → ℕ
length_of [] = 0
length_of (n ∷ ns) = whether (good_name n) (λ _. length n.text) (λ _. 0)

abbrev pub is_newline : ℕ → Bool
is_newline b = eqb b 10

-- whether no name may have a byte; a newline is one of these
abbrev pub is_other : ℕ → Bool
is_other b = not (is_printable b)

-- a length, if there is one: no good name has 0 bytes
abbrev pub sized : ℕ → Option ℕ
sized zero = None
sized (suc n) = Some (suc n)

-- what is wrong with a farm, by its litres and that length, or the length
abbrev pub name_of_size : Option ℕ → Result ℕ ℕ
name_of_size None = Err 25
name_of_size (Some n) = Ok n

abbrev pub farm_of : ℕ → Option ℕ → Result ℕ ℕ
farm_of litres size = whether (ltb 32767 litres) (λ _. Err 24) (λ _. name_of_size size)

-- the answer for so many farms that have nothing wrong
abbrev pub fitted_of : ℕ → ℕ → Result ℕ ℕ
fitted_of farms room = whether (leb farms 1000 && leb (31 * farms) room) (λ _. Ok (31 * farms)) (λ _. Err 26)

-- farms that have nothing wrong, in lists that go equally far
abbrev pub Sound : List Name → List ℕ → Type 0
Sound [] [] = Unit
Sound [] (l ∷ ls) = ⊥
Sound (n ∷ ns) [] = ⊥
Sound (n ∷ ns) (l ∷ ls) = (good_name n ≡ true) × (l ≤ 32767) × Sound ns ls
