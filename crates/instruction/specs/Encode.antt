-- The words of instructions.
use Rattle.std.specs.Prelude.{ℕ, ◌+◌, ◌-◌, ◌*◌, ◌≤◌, ◌<◌, ◌%◌, Bool, true, false}
use mathlib.Core.List.{Memᴰ}
use Rattle.word.specs.Arithmetic.{bit}
use Rattle.instruction.specs.declared.Instruction.{Instruction}
use Rattle.instruction.specs.declared.Instruction.TheVariants.{Memory, Shift, Generic}
use Rattle.instruction.specs.Field.{INDIRECT, TAG, OPCODE, SECTOR}
use Rattle.instruction.specs.Opcode.{LDX, opcodes}
use Rattle.instruction.specs.Table.{short_kinds, long_kinds, row, generics}

-- a memory-reference word put together from its parts (I1)
unfoldable pub memory_word : ℕ → Bool → Bool → Bool → ℕ → ℕ
memory_word opcode indirect tag sector address =
    bit indirect * INDIRECT + bit tag * TAG + opcode % 16 * OPCODE + bit sector * SECTOR + address % 512

-- a shift's base, and 64 less the amount (I11, I18)
unfoldable pub shift_word : ℕ → ℕ → ℕ
shift_word kind amount = (kind * 64 + 64 - amount % 64) % 65536

-- the instruction set as a relation: the word of each instruction (I1, I2, I10, I11, I18)
pub data Encodes : Instruction → ℕ → Type 0 where
  memory : {opcode address : ℕ} {indirect tag sector : Bool} → Memᴰ opcode opcodes → address < 512
      → Encodes (Memory opcode indirect tag sector address) (memory_word opcode indirect tag sector address)
  -- the word of LDX has the tag, the instruction has not: it does not add X (I2, I3)
  load_x : {address : ℕ} {indirect sector : Bool} → address < 512
      → Encodes (Memory LDX indirect false sector address) (memory_word LDX indirect true sector address)
  shift : {kind amount : ℕ} → Memᴰ kind short_kinds → 1 ≤ amount → amount ≤ 15 → Encodes (Shift kind amount) (shift_word kind amount)
  long : {kind : ℕ} → Memᴰ kind long_kinds → Encodes (Shift kind 15) (shift_word kind 15)
  generic : {slot word : ℕ} → Memᴰ (row slot word) generics → Encodes (Generic slot) word
