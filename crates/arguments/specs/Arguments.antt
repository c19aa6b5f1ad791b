-- What is typed behind a program's name.
use Rattle.std.specs.Prelude.{ℕ, Option, Some, None, Bool, ◌&&◌, List, eqb, length, get_or}
use Rattle.prelude.specs.Choice.{whether, between}
use Rattle.prelude.specs.Text.{all}
use Rattle.effect.specs.declared.Switches.{Switches}
use Rattle.source.specs.Bytes.{is_digit}
use Rattle.source.specs.Tokens.{number}

-- a number that counts turns, if what it was read from was digits alone: from 1 to 1,000,000
abbrev pub count_of : Bool → ℕ → Option ℕ
count_of digits n = whether (digits && between 1 1000000 n) (λ _. Some n) (λ _. None)

-- a count of turns in decimal digits, zeros in front allowed; no digit makes 0, which is no count (O9)
unfoldable pub turns_of : List ℕ → Option ℕ
turns_of bs = count_of (all is_digit bs) (number 10 0 bs)

-- a switch is `0` or `1`, and set if it is `1`
abbrev pub is_switch : ℕ → Bool
is_switch b = between 48 49 b

abbrev pub is_set : ℕ → Bool
is_set b = eqb b 49

-- the first four bytes as switches
abbrev pub first_four : List ℕ → Switches
first_four bs =
    record { one = is_set (get_or bs 0 0); two = is_set (get_or bs 1 0); three = is_set (get_or bs 2 0); four = is_set (get_or bs 3 0) }

-- the four sense switches: four bytes, each a switch (O9)
unfoldable pub switches_of : List ℕ → Option Switches
switches_of bs = whether (eqb (length bs) 4 && all is_switch bs) (λ _. Some (first_four bs)) (λ _. None)
