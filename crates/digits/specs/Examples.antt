-- Worked examples of numbers as text, decided by computation.
use Rattle.std.specs.Prelude.{◌≡◌, refl, [], ◌∷◌, map}
use Rattle.std.proofs.Math.Option.{none, some}
use Rattle.prelude.specs.Text.{bytes}
use Rattle.digits.specs.Digits.{octal_by, octal, decimal_by, decimal, signed, left_in, right_in, digits_from, shown}

-- ---- Six octal digits (P3)

octal_none : octal 0 ≡ bytes "000000"
unfolding octal_by
octal_none = refl

octal_carried : octal 8 ≡ bytes "000010"
unfolding octal_by
octal_carried = refl

octal_code : octal 512 ≡ bytes "001000"
unfolding octal_by
octal_code = refl

-- the largest word
octal_word : octal 65535 ≡ bytes "177777"
unfolding octal_by
octal_word = refl

-- ---- As many decimal digits as there are (P3)

decimal_none : decimal 0 ≡ bytes "0"
unfolding decimal_by
decimal_none = refl

decimal_one_digit : decimal 9 ≡ bytes "9"
unfolding decimal_by
decimal_one_digit = refl

decimal_two_digits : decimal 10 ≡ bytes "10"
unfolding decimal_by
decimal_two_digits = refl

decimal_word : decimal 65535 ≡ bytes "65535"
unfolding decimal_by
decimal_word = refl

-- the largest usize has all its 20 digits
decimal_largest : decimal 18446744073709551615 ≡ bytes "18446744073709551615"
unfolding decimal_by
decimal_largest = refl

-- ---- Words as signed numbers

signed_none : signed 0 ≡ bytes "0"
unfolding signed decimal_by
signed_none = refl

signed_highest : signed 32767 ≡ bytes "32767"
unfolding signed decimal_by
signed_highest = refl

signed_lowest : signed 32768 ≡ bytes "-32768"
unfolding signed decimal_by
signed_lowest = refl

signed_minus_one : signed 65535 ≡ bytes "-1"
unfolding signed decimal_by
signed_minus_one = refl

-- ---- In columns (B2)

-- as wide as the columns, narrower, and wider: nothing is cut
left : map (left_in 4) (bytes "Mill" ∷ bytes "Oak" ∷ bytes "" ∷ bytes "Acres" ∷ []) ≡ bytes "Mill" ∷ bytes "Oak " ∷ bytes "    " ∷ bytes "Acres" ∷ []
unfolding left_in
left = refl

right : map (right_in 4) (0 ∷ 7 ∷ 960 ∷ 2140 ∷ 10000 ∷ []) ≡ bytes "   0" ∷ bytes "   7" ∷ bytes " 960" ∷ bytes "2140" ∷ bytes "10000" ∷ []
unfolding right_in decimal_by
right = refl

-- read back: a zero is no blank, and nothing but digits stands behind the spaces
read_back : map shown (bytes "     0" ∷ bytes " 32767" ∷ bytes "  1020" ∷ bytes "007" ∷ []) ≡ some 0 ∷ some 32767 ∷ some 1020 ∷ some 7 ∷ []
unfolding shown digits_from
read_back = refl

no_number : map shown (bytes "" ∷ bytes "      " ∷ bytes "  10 2" ∷ bytes "   7 " ∷ bytes "   /7" ∷ bytes "   7:" ∷ []) ≡ none ∷ none ∷ none ∷ none ∷ none ∷ none ∷ []
unfolding shown digits_from
no_number = refl
