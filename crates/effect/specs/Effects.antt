-- What instructions do to A, B and C. The semantics of the language acts through these.
use Rattle.std.specs.Prelude.{ℕ, ◌+◌, ◌-◌, ◌%◌, cond, ◌&&◌, eqb}
use Rattle.std.specs.Int.Bits.{bit_and, bit_xor}
use Rattle.word.specs.Arithmetic.{SIGN, flagged, bit, negative, sum_of, difference_of}
use Rattle.word.specs.Bytes.{ica_of, cal_of, car_of, icr_of, icl_of}
use Rattle.word.specs.Shift.{LLS, LRS, shift_of}
use Rattle.instruction.specs.Opcode.{LDA, ANA, ERA, ADD, SUB, MPY, DIV}
use Rattle.instruction.specs.Slot.{ACA, AOA, CAL, CAR, CHS, CMA, CRA, CSA, IAB, ICA, ICL, ICR, SSM, SSP, TCA}
use Rattle.effect.specs.declared.Registers.{Registers}
use Rattle.effect.specs.Registers.{with_a, with_flagged, swapped}
use Rattle.effect.specs.Double.{multiply_of, divide_of, long_left_of, long_right_of}

-- with the operand v: only ADD, SUB and DIV set C, and only MPY and DIV set B (I6, I9, I13, I16, I17)
unfoldable pub operate_of : ℕ → ℕ → Registers → Registers
operate_of opcode v r =
    cond (eqb opcode LDA) (with_a r v)
    (cond (eqb opcode ANA) (with_a r (bit_and r.a v))
    (cond (eqb opcode ERA) (with_a r (bit_xor r.a v))
    (cond (eqb opcode ADD) (with_flagged r (sum_of r.a v))
    (cond (eqb opcode SUB) (with_flagged r (difference_of r.a v))
    (cond (eqb opcode MPY) (multiply_of v r)
    (cond (eqb opcode DIV) (divide_of v r)
    r))))))

-- the generic instructions on A and C, and IAB: only CSA, AOA and ACA set C, and only IAB sets B (I9, I10, I13, I19)
unfoldable pub unary_of : ℕ → Registers → Registers
unary_of slot r =
    cond (eqb slot CRA) (with_a r 0)
    (cond (eqb slot CMA) (with_a r (65535 - r.a))
    (cond (eqb slot TCA) (with_a r ((65536 - r.a) % 65536))
    (cond (eqb slot CHS) (with_a r ((r.a + SIGN) % 65536))
    (cond (eqb slot SSP) (with_a r (r.a % SIGN))
    (cond (eqb slot SSM) (with_a r (r.a % SIGN + SIGN))
    -- the sign goes to C, and + takes its place (I10)
    (cond (eqb slot CSA) (with_flagged r (flagged (r.a % SIGN) (negative r.a)))
    (cond (eqb slot CAR) (with_a r (car_of r.a))
    (cond (eqb slot CAL) (with_a r (cal_of r.a))
    (cond (eqb slot ICL) (with_a r (icl_of r.a))
    (cond (eqb slot AOA) (with_flagged r (sum_of r.a 1))
    (cond (eqb slot ACA) (with_flagged r (sum_of r.a (bit r.c)))
    (cond (eqb slot ICR) (with_a r (icr_of r.a))
    (cond (eqb slot ICA) (with_a r (ica_of r.a))
    (cond (eqb slot IAB) (swapped r)
    r))))))))))))))

-- a shift of A, with C (I11, I12), or of A and B, by 15 only (I18), of which LRS leaves C (I13)
abbrev pub shifted_of : ℕ → ℕ → Registers → Registers
shifted_of kind amount r =
    cond (eqb kind LLS && eqb amount 15) (long_left_of r)
    (cond (eqb kind LRS && eqb amount 15) (long_right_of r)
    (with_flagged r (shift_of kind amount r.a r.c)))
