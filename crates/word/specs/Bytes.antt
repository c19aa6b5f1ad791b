-- The five moves of a word's bytes (I10).
--
use Rattle.std.specs.Prelude.{ℕ, ◌+◌, ◌*◌, ◌/◌, ◌%◌}

-- the bytes a and b of the word (a,b), and the word
abbrev pub high_byte : ℕ → ℕ
high_byte w = w / 256

abbrev pub low_byte : ℕ → ℕ
low_byte w = w % 256

abbrev pub pair : ℕ → ℕ → ℕ
pair a b = a * 256 + b

abbrev pub ica_of : ℕ → ℕ
ica_of w = pair (low_byte w) (high_byte w)

abbrev pub cal_of : ℕ → ℕ
cal_of w = pair 0 (low_byte w)

abbrev pub car_of : ℕ → ℕ
car_of w = pair (high_byte w) 0

abbrev pub icr_of : ℕ → ℕ
icr_of w = pair (low_byte w) 0

-- (0,a): L2 of document 02 overrides document 01 here, which has (0,b)
abbrev pub icl_of : ℕ → ℕ
icl_of w = pair 0 (high_byte w)
