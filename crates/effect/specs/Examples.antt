-- The effects by example: every generic instruction (I10, I19) and every shift by each amount (I11, I12), on words whose signs, bytes and bits differ;
-- MPY, DIV and the shifts of A and B (I15 to I18) at the corners of their rules.
-- The results were worked out from what each instruction is to do, bit by bit or as numbers, apart from the definitions. Decided by computation.
use Rattle.std.specs.Prelude.{ℕ, ◌≡◌, refl, Bool, true, false, List, [], ◌∷◌, map}
use Rattle.word.specs.Arithmetic.{flagged, sum_of, difference_of}
use Rattle.word.specs.Shift.{LGR, ARS, ARR, LGL, ALS, ALR, LRS, LLS, sign_changes, shift_of}
use Rattle.word.specs.declared.Flagged.{Flagged}
use Rattle.instruction.specs.Opcode.{LDA, ANA, ERA, ADD, SUB, MPY, DIV}
use Rattle.instruction.specs.Slot.{ACA, AOA, CAL, CAR, CHS, CMA, CRA, CSA, IAB, ICA, ICL, ICR, NOP, SKP, SLN, SLZ, SMI, SNZ, SPL, SRC, SS1, SS2, SS3, SS4, SSC, SSM, SSP, SSR, SSS, SZE, TCA}
use Rattle.effect.specs.declared.Registers.{Registers}
use Rattle.effect.specs.declared.Switches.{Switches}
use Rattle.effect.specs.Double.{multiply_of, divide_of, long_left_of, long_right_of}
use Rattle.effect.specs.Effects.{operate_of, unary_of, shifted_of}
use Rattle.effect.specs.Skips.{skips_of}

abbrev with : ℕ → Bool → Registers
with a c = record { a = a; b = 9; c = c }

-- A and C before
abbrev before : List Registers
before = with 0 false ∷ with 1 true ∷ with 32767 true ∷ with 32767 false ∷ with 32768 true ∷ with 65535 true ∷ with 4805 false ∷ with 42300 true ∷ []

abbrev switches : Bool → Bool → Bool → Bool → Switches
switches one two three four = record { one = one; two = two; three = three; four = four }

-- ---- Instructions on A and C

abbrev unaries : List (ℕ × List Registers)
unaries =
    (CRA, with 0 false ∷ with 0 true ∷ with 0 true ∷ with 0 false ∷ with 0 true ∷ with 0 true ∷ with 0 false ∷ with 0 true ∷ []) ∷
    (CMA, with 65535 false ∷ with 65534 true ∷ with 32768 true ∷ with 32768 false ∷ with 32767 true ∷ with 0 true ∷ with 60730 false ∷ with 23235 true ∷ []) ∷
    (TCA, with 0 false ∷ with 65535 true ∷ with 32769 true ∷ with 32769 false ∷ with 32768 true ∷ with 1 true ∷ with 60731 false ∷ with 23236 true ∷ []) ∷
    (CHS, with 32768 false ∷ with 32769 true ∷ with 65535 true ∷ with 65535 false ∷ with 0 true ∷ with 32767 true ∷ with 37573 false ∷ with 9532 true ∷ []) ∷
    (SSP, with 0 false ∷ with 1 true ∷ with 32767 true ∷ with 32767 false ∷ with 0 true ∷ with 32767 true ∷ with 4805 false ∷ with 9532 true ∷ []) ∷
    (SSM, with 32768 false ∷ with 32769 true ∷ with 65535 true ∷ with 65535 false ∷ with 32768 true ∷ with 65535 true ∷ with 37573 false ∷ with 42300 true ∷ []) ∷
    (CSA, with 0 false ∷ with 1 false ∷ with 32767 false ∷ with 32767 false ∷ with 0 true ∷ with 32767 true ∷ with 4805 false ∷ with 9532 true ∷ []) ∷
    (CAR, with 0 false ∷ with 0 true ∷ with 32512 true ∷ with 32512 false ∷ with 32768 true ∷ with 65280 true ∷ with 4608 false ∷ with 42240 true ∷ []) ∷
    (CAL, with 0 false ∷ with 1 true ∷ with 255 true ∷ with 255 false ∷ with 0 true ∷ with 255 true ∷ with 197 false ∷ with 60 true ∷ []) ∷
    (ICL, with 0 false ∷ with 0 true ∷ with 127 true ∷ with 127 false ∷ with 128 true ∷ with 255 true ∷ with 18 false ∷ with 165 true ∷ []) ∷
    (AOA, with 1 false ∷ with 2 false ∷ with 32768 true ∷ with 32768 true ∷ with 32769 false ∷ with 0 false ∷ with 4806 false ∷ with 42301 false ∷ []) ∷
    (ACA, with 0 false ∷ with 2 false ∷ with 32768 true ∷ with 32767 false ∷ with 32769 false ∷ with 0 false ∷ with 4805 false ∷ with 42301 false ∷ []) ∷
    (ICR, with 0 false ∷ with 256 true ∷ with 65280 true ∷ with 65280 false ∷ with 0 true ∷ with 65280 true ∷ with 50432 false ∷ with 15360 true ∷ []) ∷
    (ICA, with 0 false ∷ with 256 true ∷ with 65407 true ∷ with 65407 false ∷ with 128 true ∷ with 65535 true ∷ with 50450 false ∷ with 15525 true ∷ []) ∷ []

each_unary : map (λ row. map (unary_of row.0) before) unaries ≡ map {B = List Registers} (λ row. row.1) unaries
unfolding unary_of sum_of
each_unary = refl

-- -32768 with C at 0: it is its own negative, and only CSA sets C (I10, I13)
lowest_clear :
    map (λ slot. unary_of slot (with 32768 false)) (CRA ∷ CMA ∷ TCA ∷ CHS ∷ SSP ∷ SSM ∷ CSA ∷ CAR ∷ CAL ∷ ICL ∷ AOA ∷ ACA ∷ ICR ∷ ICA ∷ [])
    ≡ with 0 false ∷ with 32767 false ∷ with 32768 false ∷ with 0 false ∷ with 0 false ∷ with 32768 false ∷ with 0 true ∷
    with 32768 false ∷ with 0 false ∷ with 128 false ∷ with 32769 false ∷ with 32768 false ∷ with 0 false ∷ with 128 false ∷ []
unfolding unary_of sum_of
lowest_clear = refl

-- ---- Instructions with an operand (I6, I9)

abbrev operands : List (ℕ × ℕ × List Registers)
operands =
    (LDA, 23055, with 23055 false ∷ with 23055 true ∷ with 23055 true ∷ with 23055 false ∷ with 23055 true ∷ with 23055 true ∷ with 23055 false ∷ with 23055 true ∷ []) ∷
    (ANA, 23055, with 0 false ∷ with 1 true ∷ with 23055 true ∷ with 23055 false ∷ with 0 true ∷ with 23055 true ∷ with 4613 false ∷ with 12 true ∷ []) ∷
    (ERA, 23055, with 23055 false ∷ with 23054 true ∷ with 9712 true ∷ with 9712 false ∷ with 55823 true ∷ with 42480 true ∷ with 18634 false ∷ with 65331 true ∷ []) ∷
    (ADD, 1, with 1 false ∷ with 2 false ∷ with 32768 true ∷ with 32768 true ∷ with 32769 false ∷ with 0 false ∷ with 4806 false ∷ with 42301 false ∷ []) ∷
    (ADD, 32768, with 32768 false ∷ with 32769 false ∷ with 65535 false ∷ with 65535 false ∷ with 0 true ∷ with 32767 true ∷ with 37573 false ∷ with 9532 true ∷ []) ∷
    (ADD, 65535, with 65535 false ∷ with 0 false ∷ with 32766 false ∷ with 32766 false ∷ with 32767 true ∷ with 65534 false ∷ with 4804 false ∷ with 42299 false ∷ []) ∷
    (SUB, 1, with 65535 false ∷ with 0 false ∷ with 32766 false ∷ with 32766 false ∷ with 32767 true ∷ with 65534 false ∷ with 4804 false ∷ with 42299 false ∷ []) ∷
    (SUB, 32768, with 32768 true ∷ with 32769 true ∷ with 65535 true ∷ with 65535 true ∷ with 0 false ∷ with 32767 false ∷ with 37573 true ∷ with 9532 false ∷ []) ∷
    (SUB, 65535, with 1 false ∷ with 2 false ∷ with 32768 true ∷ with 32768 true ∷ with 32769 false ∷ with 0 false ∷ with 4806 false ∷ with 42301 false ∷ []) ∷ []

each_operand : map (λ row. map (operate_of row.0 row.1) before) operands ≡ map {B = List Registers} (λ row. row.2) operands
unfolding operate_of sum_of difference_of
each_operand = refl

-- ---- Skips: each test on A and C both ways, each switch alone

abbrev quiet : Switches
quiet = switches false false false false

abbrev skips : List (ℕ × List Bool)
skips =
    (SKP, true ∷ true ∷ true ∷ true ∷ true ∷ true ∷ true ∷ true ∷ []) ∷
    (NOP, false ∷ false ∷ false ∷ false ∷ false ∷ false ∷ false ∷ false ∷ []) ∷
    (SRC, true ∷ false ∷ false ∷ true ∷ false ∷ false ∷ true ∷ false ∷ []) ∷
    (SSC, false ∷ true ∷ true ∷ false ∷ true ∷ true ∷ false ∷ true ∷ []) ∷
    (SZE, true ∷ false ∷ false ∷ false ∷ false ∷ false ∷ false ∷ false ∷ []) ∷
    (SNZ, false ∷ true ∷ true ∷ true ∷ true ∷ true ∷ true ∷ true ∷ []) ∷
    (SPL, true ∷ true ∷ true ∷ true ∷ false ∷ false ∷ true ∷ false ∷ []) ∷
    (SMI, false ∷ false ∷ false ∷ false ∷ true ∷ true ∷ false ∷ true ∷ []) ∷
    (SLZ, true ∷ false ∷ false ∷ false ∷ true ∷ false ∷ false ∷ true ∷ []) ∷
    (SLN, false ∷ true ∷ true ∷ true ∷ false ∷ true ∷ true ∷ false ∷ []) ∷
    (SS1, false ∷ false ∷ false ∷ false ∷ false ∷ false ∷ false ∷ false ∷ []) ∷
    (SSS, false ∷ false ∷ false ∷ false ∷ false ∷ false ∷ false ∷ false ∷ []) ∷
    (SSR, true ∷ true ∷ true ∷ true ∷ true ∷ true ∷ true ∷ true ∷ []) ∷
    (CRA, false ∷ false ∷ false ∷ false ∷ false ∷ false ∷ false ∷ false ∷ []) ∷ []

each_skip : map (λ row. map (λ r. skips_of row.0 r quiet) before) skips ≡ map {B = List Bool} (λ row. row.1) skips
unfolding skips_of
each_skip = refl

abbrev settings : List Switches
settings = switches true false false false ∷ switches false true false false ∷ switches false false true false ∷ switches false false false true ∷ switches true true true true ∷ quiet ∷ []

abbrev senses : List (ℕ × List Bool)
senses =
    (SS1, true ∷ false ∷ false ∷ false ∷ true ∷ false ∷ []) ∷
    (SS2, false ∷ true ∷ false ∷ false ∷ true ∷ false ∷ []) ∷
    (SS3, false ∷ false ∷ true ∷ false ∷ true ∷ false ∷ []) ∷
    (SS4, false ∷ false ∷ false ∷ true ∷ true ∷ false ∷ []) ∷
    (SSS, true ∷ true ∷ true ∷ true ∷ true ∷ false ∷ []) ∷
    (SSR, false ∷ false ∷ false ∷ false ∷ false ∷ true ∷ []) ∷ []

each_sense : map (λ row. map (skips_of row.0 (with 7 true)) settings) senses ≡ map {B = List Bool} (λ row. row.1) senses
unfolding skips_of
each_sense = refl

-- ---- Shifts of a word by 1 to 15

abbrev amounts : List ℕ
amounts = 1 ∷ 2 ∷ 3 ∷ 4 ∷ 5 ∷ 6 ∷ 7 ∷ 8 ∷ 9 ∷ 10 ∷ 11 ∷ 12 ∷ 13 ∷ 14 ∷ 15 ∷ []

abbrev shifts : List (ℕ × ℕ × List Flagged)
shifts =
    (LGR, 42797, flagged 21398 true ∷ flagged 10699 false ∷ flagged 5349 true ∷ flagged 2674 true ∷ flagged 1337 false ∷ flagged 668 true ∷ flagged 334 false ∷ flagged 167 false ∷ flagged 83 true ∷ flagged 41 true ∷ flagged 20 true ∷ flagged 10 false ∷ flagged 5 false ∷ flagged 2 true ∷ flagged 1 false ∷ []) ∷
    (LGR, 22739, flagged 11369 true ∷ flagged 5684 true ∷ flagged 2842 false ∷ flagged 1421 false ∷ flagged 710 true ∷ flagged 355 false ∷ flagged 177 true ∷ flagged 88 true ∷ flagged 44 false ∷ flagged 22 false ∷ flagged 11 false ∷ flagged 5 true ∷ flagged 2 true ∷ flagged 1 false ∷ flagged 0 true ∷ []) ∷
    (ARS, 42797, flagged 54166 true ∷ flagged 59851 false ∷ flagged 62693 true ∷ flagged 64114 true ∷ flagged 64825 false ∷ flagged 65180 true ∷ flagged 65358 false ∷ flagged 65447 false ∷ flagged 65491 true ∷ flagged 65513 true ∷ flagged 65524 true ∷ flagged 65530 false ∷ flagged 65533 false ∷ flagged 65534 true ∷ flagged 65535 false ∷ []) ∷
    (ARS, 22739, flagged 11369 true ∷ flagged 5684 true ∷ flagged 2842 false ∷ flagged 1421 false ∷ flagged 710 true ∷ flagged 355 false ∷ flagged 177 true ∷ flagged 88 true ∷ flagged 44 false ∷ flagged 22 false ∷ flagged 11 false ∷ flagged 5 true ∷ flagged 2 true ∷ flagged 1 false ∷ flagged 0 true ∷ []) ∷
    (ARR, 42797, flagged 54166 true ∷ flagged 27083 false ∷ flagged 46309 true ∷ flagged 55922 true ∷ flagged 27961 false ∷ flagged 46748 true ∷ flagged 23374 false ∷ flagged 11687 false ∷ flagged 38611 true ∷ flagged 52073 true ∷ flagged 58804 true ∷ flagged 29402 false ∷ flagged 14701 false ∷ flagged 40118 true ∷ flagged 20059 false ∷ []) ∷
    (ARR, 22739, flagged 44137 true ∷ flagged 54836 true ∷ flagged 27418 false ∷ flagged 13709 false ∷ flagged 39622 true ∷ flagged 19811 false ∷ flagged 42673 true ∷ flagged 54104 true ∷ flagged 27052 false ∷ flagged 13526 false ∷ flagged 6763 false ∷ flagged 36149 true ∷ flagged 50842 true ∷ flagged 25421 false ∷ flagged 45478 true ∷ []) ∷
    (LGL, 42797, flagged 20058 true ∷ flagged 40116 false ∷ flagged 14696 true ∷ flagged 29392 false ∷ flagged 58784 false ∷ flagged 52032 true ∷ flagged 38528 true ∷ flagged 11520 true ∷ flagged 23040 false ∷ flagged 46080 false ∷ flagged 26624 true ∷ flagged 53248 false ∷ flagged 40960 true ∷ flagged 16384 true ∷ flagged 32768 false ∷ []) ∷
    (LGL, 22739, flagged 45478 false ∷ flagged 25420 true ∷ flagged 50840 false ∷ flagged 36144 true ∷ flagged 6752 true ∷ flagged 13504 false ∷ flagged 27008 false ∷ flagged 54016 false ∷ flagged 42496 true ∷ flagged 19456 true ∷ flagged 38912 false ∷ flagged 12288 true ∷ flagged 24576 false ∷ flagged 49152 false ∷ flagged 32768 true ∷ []) ∷
    (ALS, 42797, flagged 20058 true ∷ flagged 40116 true ∷ flagged 14696 true ∷ flagged 29392 true ∷ flagged 58784 true ∷ flagged 52032 true ∷ flagged 38528 true ∷ flagged 11520 true ∷ flagged 23040 true ∷ flagged 46080 true ∷ flagged 26624 true ∷ flagged 53248 true ∷ flagged 40960 true ∷ flagged 16384 true ∷ flagged 32768 true ∷ []) ∷
    (ALS, 22739, flagged 45478 true ∷ flagged 25420 true ∷ flagged 50840 true ∷ flagged 36144 true ∷ flagged 6752 true ∷ flagged 13504 true ∷ flagged 27008 true ∷ flagged 54016 true ∷ flagged 42496 true ∷ flagged 19456 true ∷ flagged 38912 true ∷ flagged 12288 true ∷ flagged 24576 true ∷ flagged 49152 true ∷ flagged 32768 true ∷ []) ∷
    (ALS, 1, flagged 2 false ∷ flagged 4 false ∷ flagged 8 false ∷ flagged 16 false ∷ flagged 32 false ∷ flagged 64 false ∷ flagged 128 false ∷ flagged 256 false ∷ flagged 512 false ∷ flagged 1024 false ∷ flagged 2048 false ∷ flagged 4096 false ∷ flagged 8192 false ∷ flagged 16384 false ∷ flagged 32768 true ∷ []) ∷
    (ALS, 65535, flagged 65534 false ∷ flagged 65532 false ∷ flagged 65528 false ∷ flagged 65520 false ∷ flagged 65504 false ∷ flagged 65472 false ∷ flagged 65408 false ∷ flagged 65280 false ∷ flagged 65024 false ∷ flagged 64512 false ∷ flagged 63488 false ∷ flagged 61440 false ∷ flagged 57344 false ∷ flagged 49152 false ∷ flagged 32768 false ∷ []) ∷
    (ALS, 61440, flagged 57344 false ∷ flagged 49152 false ∷ flagged 32768 false ∷ flagged 0 true ∷ flagged 0 true ∷ flagged 0 true ∷ flagged 0 true ∷ flagged 0 true ∷ flagged 0 true ∷ flagged 0 true ∷ flagged 0 true ∷ flagged 0 true ∷ flagged 0 true ∷ flagged 0 true ∷ flagged 0 true ∷ []) ∷
    (ALR, 42797, flagged 20059 true ∷ flagged 40118 false ∷ flagged 14701 true ∷ flagged 29402 false ∷ flagged 58804 false ∷ flagged 52073 true ∷ flagged 38611 true ∷ flagged 11687 true ∷ flagged 23374 false ∷ flagged 46748 false ∷ flagged 27961 true ∷ flagged 55922 false ∷ flagged 46309 true ∷ flagged 27083 true ∷ flagged 54166 false ∷ []) ∷
    (ALR, 22739, flagged 45478 false ∷ flagged 25421 true ∷ flagged 50842 false ∷ flagged 36149 true ∷ flagged 6763 true ∷ flagged 13526 false ∷ flagged 27052 false ∷ flagged 54104 false ∷ flagged 42673 true ∷ flagged 19811 true ∷ flagged 39622 false ∷ flagged 13709 true ∷ flagged 27418 false ∷ flagged 54836 false ∷ flagged 44137 true ∷ []) ∷ []

each_shift : map (λ row. map (λ n. shift_of row.0 n row.1 true) amounts) shifts ≡ map {B = List Flagged} (λ row. row.2) shifts
unfolding shift_of sign_changes
each_shift = refl

-- ---- A and B: registers before and after, with the operand in front where there is one

abbrev registers : ℕ → ℕ → Bool → Registers
registers a b c = record { a = a; b = b; c = c }

-- ---- IAB (I19)

abbrev exchanges : List (Registers × Registers)
exchanges =
    -- B's top bit moves too; C is left at 0 and at 1
    (registers 5 40000 false, registers 40000 5 false) ∷
    (registers 5 40000 true, registers 40000 5 true) ∷
    -- A's top bit
    (registers 32768 0 false, registers 0 32768 false) ∷
    (registers 65535 1 true, registers 1 65535 true) ∷
    -- both the same
    (registers 65535 65535 false, registers 65535 65535 false) ∷ []

each_exchange : map (λ row. unary_of IAB row.0) exchanges ≡ map {B = Registers} (λ row. row.1) exchanges
unfolding unary_of
each_exchange = refl

-- ---- MPY (I16)

abbrev products : List (ℕ × Registers × Registers)
products =
    -- 0 on either side. B before it has no effect, and C is left at 0 and at 1, here and below
    (5, registers 0 7 false, registers 0 0 false) ∷
    (0, registers 5 65535 true, registers 0 0 true) ∷
    -- 3 by 4, 12: A is 0
    (4, registers 3 9 true, registers 0 12 true) ∷
    (4, registers 3 40000 false, registers 0 12 false) ∷
    -- 32767, the largest with A 0; and 16384 by 2, the smallest with A 1
    (1, registers 32767 9 false, registers 0 32767 false) ∷
    (2, registers 16384 9 true, registers 1 0 true) ∷
    -- 300 by 300, 90000 = 2 times 32768 and 24464; and 12345 by 23456, 289564320 = 8836 times 32768 and 26272
    (300, registers 300 0 false, registers 2 24464 false) ∷
    (23456, registers 12345 0 true, registers 8836 26272 true) ∷
    -- -3 by 4 and 3 by -4, -12 = -1 times 32768 and 32756; -3 by -4, 12
    (4, registers 65533 0 false, registers 65535 32756 false) ∷
    (65532, registers 3 0 true, registers 65535 32756 true) ∷
    (65532, registers 65533 0 true, registers 0 12 true) ∷
    -- -300 by 300, -90000 = -3 times 32768 and 8304
    (300, registers 65236 0 true, registers 65533 8304 true) ∷
    -- -1 by 1, 1 by -1, and -1 by -1
    (1, registers 65535 0 false, registers 65535 32767 false) ∷
    (65535, registers 1 32768 true, registers 65535 32767 true) ∷
    (65535, registers 65535 32768 false, registers 0 1 false) ∷
    -- 32767 by 32767, 2^30 - 2^16 + 1 = 32766 times 32768 and 1; -32767 by 32767, -32767 times 32768 and 32767
    (32767, registers 32767 9 false, registers 32766 1 false) ∷
    (32767, registers 32769 9 false, registers 32769 32767 false) ∷
    -- -32768 by 1, 0 and -1
    (1, registers 32768 9 true, registers 65535 0 true) ∷
    (0, registers 32768 9 true, registers 0 0 true) ∷
    (65535, registers 32768 9 false, registers 1 0 false) ∷
    -- -32768 by 32767, -32767 times 32768, the lowest of all products; and the other way round
    (32767, registers 32768 9 false, registers 32769 0 false) ∷
    (32768, registers 32767 9 true, registers 32769 0 true) ∷
    -- -32768 by itself, 2^30, the one product whose sign A loses; C is left all the same
    (32768, registers 32768 9 false, registers 32768 0 false) ∷
    (32768, registers 32768 65535 true, registers 32768 0 true) ∷ []

each_product : map (λ row. operate_of MPY row.0 row.1) products ≡ map {B = Registers} (λ row. row.2) products
unfolding operate_of multiply_of
each_product = refl

-- ---- LLS 15 (I15, I18)

abbrev lefts : List (Registers × Registers)
lefts =
    -- 0: C is cleared, or stays 0
    (registers 0 0 true, registers 0 0 false) ∷
    (registers 0 0 false, registers 0 0 false) ∷
    -- 32767 fits; 32768 does not
    (registers 0 32767 true, registers 32767 0 false) ∷
    (registers 1 0 false, registers 32768 0 true) ∷
    (registers 1 0 true, registers 32768 0 true) ∷
    -- 65535, whose low bits are those of -1; 65536, whose low bits are those of 0
    (registers 1 32767 false, registers 65535 0 true) ∷
    (registers 2 0 false, registers 0 0 true) ∷
    -- -1 and -32768 fit; -32769 does not, nor does -65536
    (registers 65535 32767 true, registers 65535 0 false) ∷
    (registers 65535 0 true, registers 32768 0 false) ∷
    (registers 65534 32767 false, registers 32767 0 true) ∷
    (registers 65534 0 false, registers 0 0 true) ∷
    -- B's top bit set and ignored: 0, 32767, -1, -32768 and 32768
    (registers 0 32768 true, registers 0 0 false) ∷
    (registers 0 65535 false, registers 32767 0 false) ∷
    (registers 65535 65535 true, registers 65535 0 false) ∷
    (registers 65535 32768 false, registers 32768 0 false) ∷
    (registers 1 32768 false, registers 32768 0 true) ∷
    -- the ends: 2^30 - 1, and -2^30, which MPY of -32768 by itself leaves
    (registers 32767 32767 false, registers 65535 0 true) ∷
    (registers 32768 0 false, registers 0 0 true) ∷ []

each_left : map (λ row. shifted_of LLS 15 row.0) lefts ≡ map {B = Registers} (λ row. row.1) lefts
unfolding long_left_of
each_left = refl

-- ---- LRS 15 (I18)

abbrev rights : List (Registers × Registers)
rights =
    -- 0, 5 and 32767: what B had is lost, and C is left at 0 and at 1
    (registers 0 77 false, registers 0 0 false) ∷
    (registers 0 65535 true, registers 0 0 true) ∷
    (registers 5 9 false, registers 0 5 false) ∷
    (registers 5 65535 true, registers 0 5 true) ∷
    (registers 32767 32768 true, registers 0 32767 true) ∷
    -- -1, -7 and -22739: B's top bit is 0
    (registers 65535 0 false, registers 65535 32767 false) ∷
    (registers 65529 65535 true, registers 65535 32761 true) ∷
    (registers 42797 40000 false, registers 65535 10029 false) ∷
    -- -32768
    (registers 32768 9 false, registers 65535 0 false) ∷
    (registers 32768 65535 true, registers 65535 0 true) ∷ []

each_right : map (λ row. shifted_of LRS 15 row.0) rights ≡ map {B = Registers} (λ row. row.1) rights
unfolding long_right_of
each_right = refl

-- other amounts of either are no instruction's (I14), and leave all. By 15 both of these would change
abbrev others : List ℕ
others = 0 ∷ 1 ∷ 7 ∷ 14 ∷ 16 ∷ 49 ∷ []

abbrev unmoved : List Registers
unmoved = registers 1 32768 false ∷ registers 42797 40000 true ∷ []

no_left : map (λ n. map (shifted_of LLS n) unmoved) others ≡ map {B = List Registers} (λ n. unmoved) others
unfolding shift_of
no_left = refl

no_right : map (λ n. map (shifted_of LRS n) unmoved) others ≡ map {B = List Registers} (λ n. unmoved) others
unfolding shift_of
no_right = refl

-- ---- DIV (I15, I17)

abbrev quotients : List (ℕ × Registers × Registers)
quotients =
    -- by 0: A and B stay, B's top bit too, and C is set; of 0 as well
    (0, registers 5 40000 false, registers 5 40000 true) ∷
    (0, registers 65535 65535 true, registers 65535 65535 true) ∷
    (0, registers 0 0 false, registers 0 0 true) ∷
    -- 0 by 5 and by -5
    (5, registers 0 0 true, registers 0 0 false) ∷
    (65531, registers 0 32768 true, registers 0 0 false) ∷
    -- 7 by 2, -7 by 2, 7 by -2, -7 by -2: the remainder has the dividend's sign. C is cleared, or stays 0
    (2, registers 0 7 true, registers 3 1 false) ∷
    (2, registers 65535 32761 true, registers 65533 65535 false) ∷
    (65534, registers 0 7 false, registers 65533 1 false) ∷
    (65534, registers 65535 32761 false, registers 3 65535 false) ∷
    -- 7 and -7 by 2 again: B's top bit is ignored
    (2, registers 0 32775 true, registers 3 1 false) ∷
    (2, registers 65535 65529 false, registers 65533 65535 false) ∷
    -- -8 by 2 and by -2: no remainder, and B is 0
    (2, registers 65535 32760 false, registers 65532 0 false) ∷
    (65534, registers 65535 32760 true, registers 4 0 false) ∷
    -- 7 and -7 by 100 and by -100: the quotient is 0 on either side of it
    (100, registers 0 7 false, registers 0 7 false) ∷
    (100, registers 65535 32761 true, registers 0 65529 false) ∷
    (65436, registers 0 7 false, registers 0 7 false) ∷
    (65436, registers 65535 32761 true, registers 0 65529 false) ∷
    -- 289564325 by 23456, 12345 and 5 over; and less than 0
    (23456, registers 8836 26277 true, registers 12345 5 false) ∷
    (23456, registers 56699 6491 true, registers 53191 65531 false) ∷
    -- quotient 32767: 32767 by 1, and 65535 by 2, 1 over
    (1, registers 0 32767 true, registers 32767 0 false) ∷
    (2, registers 1 32767 true, registers 32767 1 false) ∷
    -- quotient 32768: 32768 by 1, -32768 by -1, and 65537 by 2. A and B stay, C is set, or stays 1
    (1, registers 1 0 false, registers 1 0 true) ∷
    (1, registers 1 32768 true, registers 1 32768 true) ∷
    (65535, registers 65535 0 false, registers 65535 0 true) ∷
    (2, registers 2 1 false, registers 2 1 true) ∷
    -- quotient -32768: 32768 by -1, -32768 by 1, and 65537 by -2, 1 over
    (65535, registers 1 0 true, registers 32768 0 false) ∷
    (1, registers 65535 0 false, registers 32768 0 false) ∷
    (65534, registers 2 1 true, registers 32768 1 false) ∷
    -- quotient -32769: 32769 by -1, and -32769 by 1
    (65535, registers 1 1 false, registers 1 1 true) ∷
    (1, registers 65534 32767 true, registers 65534 32767 true) ∷
    -- by -32768: 7, 32768, -32768, and -32769, -1 over
    (32768, registers 0 7 true, registers 0 7 false) ∷
    (32768, registers 1 0 true, registers 65535 0 false) ∷
    (32768, registers 65535 0 true, registers 1 0 false) ∷
    (32768, registers 65534 32767 true, registers 1 65535 false) ∷
    -- 2^30 - 1 by -32768, -32767 and 32767 over; -2^30 + 1 by it, 32767 and -32767 over; -2^30 by it, 32768
    (32768, registers 32767 32767 true, registers 32769 32767 false) ∷
    (32768, registers 32768 1 true, registers 32767 32769 false) ∷
    (32768, registers 32768 0 false, registers 32768 0 true) ∷
    -- 2^30 - 1 by 32767, 32769; by 1; and -2^30 by 1 and by -1
    (32767, registers 32767 32767 false, registers 32767 32767 true) ∷
    (1, registers 32767 65535 false, registers 32767 65535 true) ∷
    (1, registers 32768 0 false, registers 32768 0 true) ∷
    (65535, registers 32768 32768 false, registers 32768 32768 true) ∷ []

each_quotient : map (λ row. operate_of DIV row.0 row.1) quotients ≡ map {B = Registers} (λ row. row.2) quotients
unfolding operate_of divide_of
each_quotient = refl

-- ---- Words by words: MPY then LLS 15, and LRS 15 then DIV

abbrev word_products : List (ℕ × Registers × Registers)
word_products =
    -- 300 by 100, -300 by 100, -300 by -100: C is cleared
    (100, registers 300 9 true, registers 30000 0 false) ∷
    (100, registers 65236 9 true, registers 35536 0 false) ∷
    (65436, registers 65236 9 true, registers 30000 0 false) ∷
    -- 256 by 128, 32768, and -256 by 128, -32768
    (128, registers 256 9 false, registers 32768 0 true) ∷
    (128, registers 65280 9 true, registers 32768 0 false) ∷
    -- -32768 by -1, 32768, and by itself, 2^30
    (65535, registers 32768 9 false, registers 32768 0 true) ∷
    (32768, registers 32768 9 false, registers 0 0 true) ∷ []

each_word_product : map (λ row. shifted_of LLS 15 (operate_of MPY row.0 row.1)) word_products ≡ map {B = Registers} (λ row. row.2) word_products
unfolding operate_of multiply_of long_left_of
each_word_product = refl

abbrev word_quotients : List (ℕ × Registers × Registers)
word_quotients =
    -- 7 by 2, -7 by 2, 7 by -2, -7 by -2
    (2, registers 7 65535 true, registers 3 1 false) ∷
    (2, registers 65529 65535 true, registers 65533 65535 false) ∷
    (65534, registers 7 65535 true, registers 65533 1 false) ∷
    (65534, registers 65529 65535 true, registers 3 65535 false) ∷
    -- -32768 by 1, by itself, and by -1: the one quotient of words outside of a word
    (1, registers 32768 9 false, registers 32768 0 false) ∷
    (32768, registers 32768 9 false, registers 1 0 false) ∷
    (65535, registers 32768 9 false, registers 65535 0 true) ∷
    -- by 0: what LRS 15 left stays
    (0, registers 65529 9 false, registers 65535 32761 true) ∷ []

each_word_quotient : map (λ row. operate_of DIV row.0 (shifted_of LRS 15 row.1)) word_quotients ≡ map {B = Registers} (λ row. row.2) word_quotients
unfolding operate_of divide_of long_right_of
each_word_quotient = refl
