-- The six shifts by an amount from 1 to 15: the word (I11), and the bit that goes to C (I12).
use Rattle.std.specs.Prelude.{ℕ, zero, suc, ◌+◌, ◌-◌, ◌*◌, ◌/◌, ◌%◌, ◌^◌, Bool, true, false, cond, ◌||◌, eqb, ltb}
use Rattle.word.specs.declared.Flagged.{Flagged}
use Rattle.word.specs.Arithmetic.{flagged, negative}

-- the kinds of shift: each is its instruction's base without the last two octal digits (I11)
abbrev pub LGR : ℕ
LGR = 0o404

abbrev pub ARS : ℕ
ARS = 0o405

abbrev pub ARR : ℕ
ARR = 0o406

abbrev pub LGL : ℕ
LGL = 0o414

abbrev pub ALS : ℕ
ALS = 0o415

abbrev pub ALR : ℕ
ALR = 0o416

-- and the two that move A and B (I18)
abbrev pub LRS : ℕ
LRS = 0o401

abbrev pub LLS : ℕ
LLS = 0o411

-- the bit of a word at a place, 0 the lowest. The last bit moved out is bit amount - 1 to the right, and bit 16 - amount to the left (I12)
abbrev pub bit_at : ℕ → ℕ → Bool
bit_at w place = eqb (w / 2 ^ place % 2) 1

-- zeros move in
abbrev pub logical_right : ℕ → ℕ → Flagged
logical_right amount w = flagged (w / 2 ^ amount) (bit_at w (amount - 1))

-- copies of the sign move in
abbrev pub arithmetic_right : ℕ → ℕ → Flagged
arithmetic_right amount w = flagged (cond (negative w) ((w / 2 ^ amount + 65536 - 2 ^ (16 - amount)) % 65536) (w / 2 ^ amount)) (bit_at w (amount - 1))

-- what moves out at one end moves in at the other
abbrev pub rotate_right : ℕ → ℕ → Flagged
rotate_right amount w = flagged ((w / 2 ^ amount + w * 2 ^ (16 - amount)) % 65536) (bit_at w (amount - 1))

-- zeros move in
abbrev pub logical_left : ℕ → ℕ → Flagged
logical_left amount w = flagged (w * 2 ^ amount % 65536) (bit_at w (16 - amount))

abbrev pub differ : Bool → Bool → Bool
differ true b = cond b false true
differ false b = b

-- whether the sign changes at one of n moves to the left, each by one bit (I12)
unfoldable pub sign_changes : ℕ → ℕ → Bool
sign_changes zero w = false
sign_changes (suc n) w = cond (differ (negative w) (negative (w * 2 % 65536))) true (sign_changes n (w * 2 % 65536))

-- as logical_left, but C says whether the sign changed (I12)
abbrev pub arithmetic_left : ℕ → ℕ → Flagged
arithmetic_left amount w = flagged (w * 2 ^ amount % 65536) (sign_changes amount w)

-- what moves out at one end moves in at the other
abbrev pub rotate_left : ℕ → ℕ → Flagged
rotate_left amount w = flagged ((w * 2 ^ amount + w / 2 ^ (16 - amount)) % 65536) (bit_at w (16 - amount))

abbrev pub by_kind : ℕ → ℕ → ℕ → Bool → Flagged
by_kind kind amount w c =
    cond (eqb kind LGR) (logical_right amount w)
    (cond (eqb kind ARS) (arithmetic_right amount w)
    (cond (eqb kind ARR) (rotate_right amount w)
    (cond (eqb kind LGL) (logical_left amount w)
    (cond (eqb kind ALS) (arithmetic_left amount w)
    (cond (eqb kind ALR) (rotate_left amount w)
    (flagged w c))))))

-- an amount out of range, or a kind that is none of the six, leaves both
unfoldable pub shift_of : ℕ → ℕ → ℕ → Bool → Flagged
shift_of kind amount w c = cond (ltb amount 1 || ltb 15 amount) (flagged w c) (by_kind kind amount w c)
