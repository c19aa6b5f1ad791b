-- One step of the machine.
use Rattle.std.specs.Prelude.{◌≡◌, ℕ, ◌+◌, ◌*◌, ◌/◌, ◌%◌, cond, List, ◌==◌, Result, Ok, Err, slice_index, slice_index_or, slice_set}
use Rattle.word.specs.Arithmetic.{bit, compare_of}
use Rattle.instruction.specs.Opcode.{JMP, STA, JST, CAS, IRS, LDX}
use Rattle.instruction.specs.Slot.{HLT}
use Rattle.instruction.specs.Decode.{decode_def}
use Rattle.instruction.specs.declared.Instruction.{Instruction}
use Rattle.instruction.specs.declared.Instruction.TheVariants.{Memory, Shift, Generic, Unknown}
use Rattle.effect.specs.Effects.{operate_of, unary_of, shifted_of}
use Rattle.effect.specs.Skips.{skips_of}
use Rattle.machine.specs.declared.Machine.{Machine}
use Rattle.machine.specs.declared.address.Reached.{Reached}
use Rattle.machine.specs.declared.failure.Failure.{Failure}
use Rattle.machine.specs.declared.failure.Failure.TheVariants.{UnknownWord}
use Rattle.machine.specs.State.{State, state, at_p, with_registers, stopped}
use Rattle.machine.specs.Address.{address_of}

-- P after an instruction that skips so many words, wrapped to the memory (I4)
abbrev pub past_of : ℕ → ℕ → ℕ
past_of p skipped = (p + 1 + skipped) % 16384

-- P past the words skipped
abbrev pub onward : Machine → ℕ → Machine
onward m skipped = at_p m (past_of m.p skipped)

-- IRS: one more, and a skip where that comes to 0 (I8)
abbrev pub increment_def : ℕ → Machine → List ℕ → State
increment_def e m image =
    let w = (slice_index image e + 1) % 65536 in
    state (onward m (bit (w == 0))) (slice_set image e w)

-- a memory-reference instruction at its effective address e (I6, I7, I8, I16, I17)
unfoldable pub memory_def : ℕ → ℕ → Machine → List ℕ → State
memory_def opcode e m image =
    let v = slice_index_or image e 0 in
    cond (opcode == JMP) (state (at_p m e) image)
    (cond (opcode == STA) (state (onward m 0) (slice_set image e m.registers.a))
    -- JST: the link, under the top two bits that stood there (I7)
    (cond (opcode == JST) (state (at_p m (past_of e 0)) (slice_set image e (v / 16384 * 16384 + past_of m.p 0)))
    (cond (opcode == CAS) (state (onward m (compare_of m.registers.a v)) image)
    (cond (opcode == IRS) (increment_def e m image)
    (cond (opcode == LDX) (state (onward m 0) (slice_set image 0 v))
    (state (onward (with_registers m (operate_of opcode v m.registers)) 0) image))))))

-- a generic instruction skips, or changes the registers, or neither (I10, I19); HLT is a step too, and P goes on (R3)
unfoldable pub generic_def : ℕ → Machine → Machine
generic_def slot m =
    cond (slot == HLT) (stopped (onward m 0))
    (onward (with_registers m (unary_of slot m.registers)) (bit (skips_of slot m.registers m.switches)))

-- a step made, or a failure, which leaves the state as it was (R6, demand 1d)
pub data Step : Type 0 where
  made : State → Step
  failed : Failure → Step

-- at the effective address, unless the chain is too long (I5, F21)
abbrev pub memory_step : ℕ → Machine → List ℕ → Result Reached Failure → Step
memory_step opcode m image (Ok r) = made (memory_def opcode r.address m image)
memory_step opcode m image (Err f) = failed f

-- what an instruction does; a word that is none fails (F20)
abbrev pub perform : Machine → List ℕ → Instruction → Step
perform m image (Memory opcode indirect tag sector address) = memory_step opcode m image (address_of image m.p indirect tag sector address)
perform m image (Shift kind amount) = made (state (onward (with_registers m (shifted_of kind amount m.registers)) 0) image)
perform m image (Generic slot) = made (state (generic_def slot m) image)
perform m image Unknown = failed UnknownWord

-- one step: the word at P, decoded and performed (demand 2c)
unfoldable pub step_def : State → Step
step_def s = perform s.machine s.image (decode_def (slice_index s.image s.machine.p))

-- what the step's function answers
abbrev pub stepped_of : Step → Result Machine Failure
stepped_of (made s) = Ok s.machine
stepped_of (failed f) = Err f

-- the image that it leaves: as it was, where the step fails (R6, demand 1d)
abbrev pub image_left : List ℕ → Step → List ℕ
image_left image (made s) = s.image
image_left image (failed f) = image

-- a call makes this step, on an image that was so before
abbrev pub Makes : List ℕ → Step → Result Machine Failure → List ℕ → Type 0
Makes before step answer after = (answer ≡ stepped_of step) × (after ≡ image_left before step)
