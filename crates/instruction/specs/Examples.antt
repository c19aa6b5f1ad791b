-- Worked examples of the decoder and the encoder, decided by computation.
use Rattle.std.specs.Prelude.{ℕ, zero, suc, ◌+◌, ◌≡◌, refl, Bool, true, false, cond, List, [], ◌∷◌, ◌++◌, map, replicate}
use Rattle.word.specs.Shift.{LRS, LLS}
use Rattle.instruction.specs.declared.Instruction.{Instruction}
use Rattle.instruction.specs.declared.Instruction.TheVariants.{Memory, Shift, Generic, Unknown}
use Rattle.instruction.specs.Opcode.{MPY, DIV}
use Rattle.instruction.specs.Slot.{IAB}
use Rattle.instruction.specs.Table.{generics}
use Rattle.instruction.specs.Decode.{find_word, generic_of, shift_of, memory_of, decode_def}
use Rattle.instruction.specs.Encode.{memory_word, shift_word}

-- words next to those of shifts: the bases below and above each three and each long one, and the amounts 0 and 16; one next to NOP (I14)
no_instructions :
    map {B = Instruction} decode_def
    (0o040377 ∷ 0o040777 ∷ 0o041377 ∷ 0o041777 ∷ 0o040061 ∷ 0o040261 ∷ 0o041061 ∷ 0o041261 ∷ 0o040400 ∷ 0o040460 ∷ 0o101003 ∷ [])
    ≡ replicate 11 Unknown
unfolding decode_def memory_of shift_of generic_of find_word generics
no_instructions = refl

-- count words, each a step after the one before
abbrev steps : ℕ → ℕ → ℕ → List ℕ
steps first step zero = []
steps first step (suc count) = first ∷ steps (first + step) step count

abbrev is_unknown : Instruction → Bool
is_unknown (Memory opcode indirect tag sector address) = false
is_unknown (Shift kind amount) = false
is_unknown (Generic slot) = false
is_unknown Unknown = true

abbrev unknowns : List ℕ → List ℕ
unfolding decode_def memory_of shift_of generic_of find_word generics
unknowns [] = []
unknowns (w ∷ ws) = cond (is_unknown (decode_def w)) (w ∷ unknowns ws) (unknowns ws)

-- of the opcodes '1 to '17 no instruction has '13 and '14, with a tag or without, nor '15 without its tag (I2, I14)
opcodes_left :
    (unknowns (steps 0o002000 0o2000 15) ≡ 0o026000 ∷ 0o030000 ∷ 0o032000 ∷ []) × (unknowns (steps 0o042000 0o2000 15) ≡ 0o066000 ∷ 0o070000 ∷ [])
unfolding decode_def memory_of shift_of generic_of find_word generics
opcodes_left = (refl, refl)

-- MPY (I16) and DIV (I17), with none and with each of indirect, tag and sector bit
decoded_products :
    map {B = Instruction} decode_def (0o034000 ∷ 0o134001 ∷ 0o074002 ∷ 0o035003 ∷ 0o036004 ∷ 0o136005 ∷ 0o076006 ∷ 0o037777 ∷ [])
    ≡ Memory MPY false false false 0 ∷ Memory MPY true false false 1 ∷ Memory MPY false true false 2 ∷ Memory MPY false false true 3 ∷
    Memory DIV false false false 4 ∷ Memory DIV true false false 5 ∷ Memory DIV false true false 6 ∷ Memory DIV false false true 0o777 ∷ []
unfolding decode_def memory_of
decoded_products = refl

encoded_products :
    memory_word MPY false false false 0 ∷ memory_word MPY true false false 1 ∷ memory_word MPY false true false 2 ∷ memory_word MPY false false true 3 ∷
    memory_word DIV false false false 4 ∷ memory_word DIV true false false 5 ∷ memory_word DIV false true false 6 ∷ memory_word DIV false false true 0o777 ∷ []
    ≡ 0o034000 ∷ 0o134001 ∷ 0o074002 ∷ 0o035003 ∷ 0o036004 ∷ 0o136005 ∷ 0o076006 ∷ 0o037777 ∷ []
unfolding memory_word
encoded_products = refl

-- of all fields of a base only 61 is an instruction's, of the shift by 15 (I18)
abbrev only_by15 : ℕ → List Instruction
only_by15 kind = replicate 0o61 Unknown ++ (Shift kind 15 ∷ replicate 0o16 Unknown)

decoded_long :
    (map decode_def (steps 0o040100 1 0o100) ≡ only_by15 LRS) × (map decode_def (steps 0o041100 1 0o100) ≡ only_by15 LLS)
unfolding decode_def shift_of
decoded_long = (refl, refl)

encoded_long : shift_word LRS 15 ∷ shift_word LLS 15 ∷ [] ≡ 0o040161 ∷ 0o041161 ∷ []
unfolding shift_word
encoded_long = refl

-- IAB (I19) and the words next to it
swap : map decode_def (0o000200 ∷ 0o000201 ∷ 0o000202 ∷ []) ≡ Unknown ∷ Generic IAB ∷ Unknown ∷ []
unfolding decode_def generic_of find_word generics
swap = refl
