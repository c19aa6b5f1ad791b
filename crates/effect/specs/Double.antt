-- A and B together as one signed number, the double value: MPY, DIV, and the shifts by 15 of both (I15 to I18).
-- Signed values that may need more than a word are natural numbers here: each is given plus 2^31, a multiple of 32768 and of 65536, so that quotients and remainders by these come out as they are.
use Rattle.std.specs.Prelude.{ℕ, ◌+◌, ◌-◌, ◌*◌, ◌/◌, ◌%◌, Bool, true, false, cond, ◌||◌, eqb, leb, ltb}
use Rattle.word.specs.Arithmetic.{negative, biased}
use Rattle.word.specs.Shift.{differ}
use Rattle.effect.specs.declared.Registers.{Registers}

-- 0, given plus 2^31
abbrev pub ZERO : ℕ
ZERO = 2147483648

-- a signed value by its sign and its magnitude
abbrev pub signed : Bool → ℕ → ℕ
signed minus m = cond minus (ZERO - m) (ZERO + m)

-- whether a signed value is below -32768 or above 32767
abbrev pub outside : ℕ → Bool
outside n = ltb n (ZERO - 32768) || leb (ZERO + 32768) n

-- a word's signed value without its sign
abbrev pub magnitude : ℕ → ℕ
magnitude w = cond (negative w) (65536 - w) w

-- the double value: A's signed value times 32768, and B's low 15 bits (I15). `biased` is A's signed value plus 32768; with 32768 more it is given plus 65536, and times 32768 plus 2^31
abbrev pub double_of : Registers → ℕ
double_of r = (biased r.a + 32768) * 32768 + r.b % 32768

-- the signed product
abbrev pub product_of : ℕ → ℕ → ℕ
product_of a v = signed (differ (negative a) (negative v)) (magnitude a * magnitude v)

-- MPY: B has the product's low 15 bits, A the next 16; C stays (I16)
unfoldable pub multiply_of : ℕ → Registers → Registers
multiply_of v r = let p = product_of r.a v in record { a = p / 32768 % 65536; b = p % 32768; c = r.c }

-- where a division cannot be done: A and B stay, and C is 1 (I17)
abbrev pub undivided : Registers → Registers
undivided r = record { a = r.a; b = r.b; c = true }

-- DIV divides the double value, toward zero: quotient to A, remainder with the dividend's sign to B, 0 to C.
-- It cannot be done where v is 0 or the quotient is outside of a word (I17)
unfoldable pub divide_of : ℕ → Registers → Registers
divide_of v r =
    let n = double_of r in
    let minus = ltb n ZERO in
    let size = cond minus (ZERO - n) (n - ZERO) in
    let quotient = signed (differ minus (negative v)) (size / magnitude v) in
    let remainder = signed minus (size % magnitude v) in
    cond (eqb v 0 || outside quotient) (undivided r) (record { a = quotient % 65536; b = remainder % 65536; c = false })

-- LLS 15: A has the double value's low 16 bits, B is 0, and C says whether a word could not hold it (I18)
unfoldable pub long_left_of : Registers → Registers
long_left_of r = let n = double_of r in record { a = n % 65536; b = 0; c = outside n }

-- LRS 15: A's low 15 bits to B, and copies of its sign to A; C stays (I18)
unfoldable pub long_right_of : Registers → Registers
long_right_of r = record { a = cond (negative r.a) 65535 0; b = r.a % 32768; c = r.c }
