-- What instruction a word is.
use Rattle.std.specs.Prelude.{ℕ, ◌-◌, ◌/◌, ◌%◌, Bool, false, cond, not, ◌&&◌, ◌||◌, List, [], ◌∷◌, eqb, leb, get_or}
use Rattle.instruction.specs.declared.Instruction.{Instruction}
use Rattle.instruction.specs.declared.Instruction.TheVariants.{Memory, Shift, Generic, Unknown}
use Rattle.instruction.specs.Field.{TAG, indirect_of, tag_of, sector_of, opcode_of}
use Rattle.instruction.specs.Opcode.{LDX, opcodes}
use Rattle.instruction.specs.Slot.{slot_of}
use Rattle.instruction.specs.Table.{short_kinds, long_kinds, Row, generics}

-- the row that has the word; where none has, it is no instruction (I14)
unfoldable pub find_word : ℕ → List Row → Instruction
find_word w [] = Unknown
find_word w (r ∷ rs) = cond (eqb r.word w) (Generic r.slot) (find_word w rs)

-- a generic instruction is a word of the table (I10)
unfoldable pub generic_of : ℕ → Instruction
generic_of w = find_word w generics

-- whether a number is one of a list's
abbrev pub is_in : ℕ → List ℕ → Bool
is_in n [] = false
is_in n (m ∷ ms) = eqb n m || is_in n ms

-- whether there is a shift of a kind whose field, the low six bits, is 64 less its amount: of six kinds by up to 15 (I11), of two by 15 only (I18)
abbrev pub is_shift : ℕ → ℕ → Bool
is_shift kind field = leb 49 field && is_in kind short_kinds || eqb field 49 && is_in kind long_kinds

-- other kinds and amounts are no instruction's (I14)
unfoldable pub shift_of : ℕ → Instruction
shift_of w = cond (is_shift (w / 64) (w % 64)) (Shift (w / 64) (64 - w % 64)) Unknown

-- the opcodes that go with a tag and without, and LDX with its tag only (I1, I2); the others are no instruction's (I14)
abbrev pub is_memory : ℕ → Bool → Bool
is_memory opcode tag = is_in opcode opcodes || eqb opcode LDX && tag

-- the tag adds X, but LDX's does not (I3)
abbrev pub adds_x : ℕ → Bool → Bool
adds_x opcode tag = tag && not (eqb opcode LDX)

-- the parts of a memory-reference word (I1)
unfoldable pub memory_of : ℕ → Instruction
memory_of w =
    cond (is_memory (opcode_of w) (tag_of w))
    (Memory (opcode_of w) (indirect_of w) (adds_x (opcode_of w) (tag_of w)) (sector_of w) (w % 512))
    Unknown

-- opcode 0 is a shift where the top two bits are 01, else a generic instruction
abbrev pub decode_by : (ℕ → Instruction) → ℕ → Instruction
decode_by generic w = cond (eqb (opcode_of w) 0) (cond (eqb (w / TAG) 1) (shift_of w) (generic w)) (memory_of w)

-- the instruction that a word is, or that it is none (I14)
unfoldable pub decode_def : ℕ → Instruction
decode_def w = decode_by generic_of w

-- the decoder, for whatever table it is lent: it looks at one slot. With `table_of` it is decode_def (proofs/Rows)
unfoldable pub generic_in : List ℕ → ℕ → Instruction
generic_in table w = cond (eqb (get_or table (slot_of w) 0) w) (Generic (slot_of w)) Unknown

unfoldable pub decode_in : List ℕ → ℕ → Instruction
decode_in table w = decode_by (generic_in table) w
