-- Worked examples, decided by computation.
use Rattle.std.specs.Prelude.{ℕ, ◌≡◌, refl, Bool, true, false, List, ◌∷◌, set, replicate}
use Rattle.instruction.specs.Table.{generics}
use Rattle.instruction.specs.Decode.{find_word, generic_of, shift_of, memory_of, decode_def}
use Rattle.effect.specs.Effects.{unary_of}
use Rattle.effect.specs.Skips.{skips_of}
use Rattle.machine.specs.declared.Machine.{Machine}
use Rattle.machine.specs.declared.failure.Failure.TheVariants.{WrongImage, UnknownWord, WrongP}
use Rattle.machine.specs.declared.Outcome.{Outcome}
use Rattle.machine.specs.declared.Outcome.TheVariants.{Halted, Spent, Failed}
use Rattle.machine.specs.State.{state}
use Rattle.machine.specs.Step.{generic_def, step_def}
use Rattle.machine.specs.Run.{Ran, run_from, run_def}
use Rattle.turns.specs.Turns.{turns_def, turned_of}

abbrev machine_at : ℕ → Bool → Machine
machine_at p halted =
    record {
      registers = record { a = 7; b = 0; c = false };
      p = p;
      switches = record { one = false; two = false; three = false; four = false };
      halted = halted;
    }

-- an image of halts
abbrev halts : List ℕ
halts = replicate 16384 0

-- how turns end: the outcome, the steps and P
abbrev ending : Ran → Outcome × ℕ × ℕ
ending r = let t = turned_of r in (t.outcome, t.steps, t.machine.p)

-- no turn is spent, though the machine is halted; one finds that it is
no_turn : ending (turns_def 0 (state (machine_at 5 true) halts)) ≡ (Spent, 0, 5)
unfolding turns_def
no_turn = refl

halted_before : ending (turns_def 1 (state (machine_at 5 true) halts)) ≡ (Halted, 0, 5)
unfolding turns_def run_def run_from
halted_before = refl

-- a turn that ends before its steps are made is the last: none of the others adds to them
first_halts : ending (turns_def 3 (state (machine_at 5 false) halts)) ≡ (Halted, 1, 6)
unfolding turns_def run_def run_from step_def decode_def shift_of generic_of find_word generics memory_of generic_def
first_halts = refl

-- NOP, and then a word that is no instruction
first_fails : ending (turns_def 3 (state (machine_at 5 false) (set (set halts 5 0o101000) 6 0o026000))) ≡ (Failed UnknownWord, 1, 6)
unfolding turns_def run_def run_from step_def decode_def shift_of generic_of find_word generics memory_of generic_def unary_of skips_of
first_fails = refl

-- refused: an image of another length, and P outside of it
wrong_image_lem : ending (turns_def 3 (state (machine_at 5 false) (0 ∷ halts))) ≡ (Failed WrongImage, 0, 5)
unfolding turns_def run_def
wrong_image_lem = refl

wrong_p_lem : ending (turns_def 3 (state (machine_at 16384 false) halts)) ≡ (Failed WrongP, 0, 16384)
unfolding turns_def run_def
wrong_p_lem = refl
