-- The decoder and the instruction set (`Encodes`) agree, in both directions.
use Rattle.std.specs.Prelude.{ℕ, ◌<◌, ◌≡◌, ◌⊎◌, get_or}
use mathlib.Core.List.{Memᴰ}
use Rattle.instruction.specs.declared.Instruction.{Instruction}
use Rattle.instruction.specs.declared.Instruction.TheVariants.{Unknown}
use Rattle.instruction.specs.Table.{row, generics, table_of}
use Rattle.instruction.specs.Decode.{decode_def, decode_in}
use Rattle.instruction.specs.Encode.{Encodes}

-- a word is unknown exactly if no instruction has it (I14)
pub record UnknownExactly (w : ℕ) : Type 0 where
  pub no_instruction : decode_def w ≡ Unknown → (i : Instruction) → Encodes i w → ⊥
  pub unknown : ((i : Instruction) → Encodes i w → ⊥) → decode_def w ≡ Unknown

pub record Agreement : Type 0 where
  -- the word of an instruction decodes to it
  pub encoded : {i : Instruction} {w : ℕ} → Encodes i w → decode_def w ≡ i
  -- a word decodes to an instruction whose word it is, or to none
  pub known : (w : ℕ) → w < 65536 → (decode_def w ≡ Unknown) ⊎ Encodes (decode_def w) w
  pub unknown_exactly : (w : ℕ) → w < 65536 → UnknownExactly w
  -- the decoder, lent the table, is the definition
  pub decoder : (w : ℕ) → decode_in table_of w ≡ decode_def w
  -- each generic instruction's word stands at its slot
  pub slots : (slot word : ℕ) → Memᴰ (row slot word) generics → get_or table_of slot 0 ≡ word
