-- The sources and states of the table's runs.
use Rattle.std.specs.Prelude.{ℕ, Bool, false, List, []}
use Rattle.prelude.specs.Text.{bytes}
use Rattle.machine.specs.declared.Machine.{Machine}
use Rattle.machine.specs.State.{state}
use Rattle.machine.specs.Run.{Ran, run_def}
use Rattle.compilation.specs.Compile.{Result, compile_def}

-- the image that a source compiles to
abbrev pub image_in : Result → List ℕ
image_in (Result.accepted c) = c.image
image_in (Result.failed n at) = []

-- A and P; B and C are 0 and no sense switch is set
abbrev pub machine_at : ℕ → ℕ → Bool → Machine
machine_at a p halted = record {
  registers = record { a = a; b = 0; c = false };
  p = p;
  switches = record { one = false; two = false; three = false; four = false };
  halted = halted;
}

-- on the largest budget, for the last cooperative
abbrev pub run : Machine → List ℕ → Ran
run m image = run_def (record { budget = 1000000; cooperative = 15 }) (state m image)

-- the first program of docs/REFERENCE.md (K1)
abbrev pub first_program : List ℕ
first_program = bytes ".BEGIN .INTEGER A; A = 2140 + 1875 + 960 .END"

unfoldable pub sums : List ℕ
sums = image_in (compile_def first_program)

unfoldable pub absolute : List ℕ
absolute = image_in (compile_def (bytes ".BEGIN @ = .ABS @ .END"))

unfoldable pub greater : List ℕ
greater = image_in (compile_def (bytes ".BEGIN .WHEN @ > -32768 .THEN @ = .ZERO .END"))
