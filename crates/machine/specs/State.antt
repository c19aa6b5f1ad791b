-- The machine's state.
use Rattle.std.specs.Prelude.{◌≡◌, ℕ, ◌<◌, true, List, length}
use Rattle.effect.specs.declared.Registers.{Registers}
use Rattle.machine.specs.declared.Machine.{Machine}

-- the machine by value, its registers, P and switches, and whether it is halted; and the image, whose word 0 is X (R1)
pub record State : Type 0 where
  pub machine : Machine
  pub image : List ℕ

abbrev pub state : Machine → List ℕ → State
state m image = record { machine = m; image = image }

-- the machine with another P, with other registers, and halted
abbrev pub at_p : Machine → ℕ → Machine
at_p m p = record { registers = m.registers; p = p; switches = m.switches; halted = m.halted }

abbrev pub with_registers : Machine → Registers → Machine
with_registers m r = record { registers = r; p = m.p; switches = m.switches; halted = m.halted }

abbrev pub stopped : Machine → Machine
stopped m = record { registers = m.registers; p = m.p; switches = m.switches; halted = true }

-- a call leaves this state: its answer is the machine, and the image is in what it was lent
abbrev pub Leaves : State → Machine → List ℕ → Type 0
Leaves s answer after = (answer ≡ s.machine) × (after ≡ s.image)

-- what a run asks of a state: an image of 16,384 words, and P in it
abbrev pub Good : State → Type 0
Good s = (length s.image ≡ 16384) × (s.machine.p < 16384)
