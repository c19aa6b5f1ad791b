-- Words of 16 bits are numbers below 65536: their sums, differences and comparisons.
--
use Rattle.std.specs.Prelude.{ℕ, ◌+◌, ◌-◌, ◌%◌, Bool, cond, ◌||◌, eqb, leb, ltb}
use Rattle.word.specs.declared.Flagged.{Flagged}

-- a word, and the bit that goes to C
abbrev pub flagged : ℕ → Bool → Flagged
flagged w c = record { word = w; flag = c }

-- a bit as a number
abbrev pub bit : Bool → ℕ
bit b = cond b 1 0

-- the bit of the sign, and so the least word whose sign is -
abbrev pub SIGN : ℕ
SIGN = 0o100000

abbrev pub negative : ℕ → Bool
negative w = leb SIGN w

-- a word's signed value, plus 32768: natural numbers in the order of the signed values
abbrev pub biased : ℕ → ℕ
biased w = (w + SIGN) % 65536

-- whether a signed value is below -32768 or above 32767 (I9); it is given plus 65536
abbrev pub overflows : ℕ → Bool
overflows raised = ltb raised 32768 || leb 98304 raised

-- the sum, wrapped to a word, and C for its overflow (I6, I9)
unfoldable pub sum_of : ℕ → ℕ → Flagged
sum_of a v = flagged ((a + v) % 65536) (overflows (biased a + biased v))

-- the difference likewise (I6, I9)
unfoldable pub difference_of : ℕ → ℕ → Flagged
difference_of a v = flagged ((a + 65536 - v) % 65536) (overflows (biased a + 65536 - biased v))

-- how many words CAS skips where A is a: by the signed values (I8, K6)
unfoldable pub compare_of : ℕ → ℕ → ℕ
compare_of a v = cond (ltb (biased v) (biased a)) 0 (cond (eqb (biased a) (biased v)) 1 2)
