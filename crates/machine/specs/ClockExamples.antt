-- Worked examples of the clock record, decided by computation: whose count the steps of a run go to, and when it is refused.
use Rattle.std.specs.Prelude.{◌≡◌, ℕ, ◌+◌, Bool, true, false, List, [], ◌∷◌, ◌++◌, map, take, drop, replicate, slice_set, refl}
use Prim.Native.String.{String}
use Rattle.instruction.specs.Table.{generics}
use Rattle.instruction.specs.Decode.{find_word, generic_of, shift_of, memory_of, decode_def}
use Rattle.effect.specs.Effects.{unary_of}
use Rattle.effect.specs.Skips.{skips_of}
use Rattle.machine.specs.declared.Clock.{Clock}
use Rattle.machine.specs.declared.Request.{Request}
use Rattle.machine.specs.declared.failure.Failure.TheVariants.{OverBudget, UnknownWord, WrongCooperative, WrongImage, WrongP}
use Rattle.machine.specs.declared.Outcome.{Outcome}
use Rattle.machine.specs.declared.Outcome.TheVariants.{Halted, Spent, Failed}
use Rattle.machine.specs.State.{State, state}
use Rattle.machine.specs.Step.{generic_def, step_def}
use Rattle.machine.specs.Clock.{start_clock, spend_many, due_of}
use Rattle.machine.specs.Run.{Ran, idle, run_from, run_def, report_of}

start : start_clock ≡ record { common = 0; counts = 0 ∷ 0 ∷ 0 ∷ 0 ∷ 0 ∷ 0 ∷ 0 ∷ 0 ∷ 0 ∷ 0 ∷ 0 ∷ 0 ∷ 0 ∷ 0 ∷ 0 ∷ 0 ∷ [] }
start = refl

-- each count has a value of its own; that of cooperative 7 is one step before it wraps
abbrev counts : List ℕ
counts = 100 ∷ 101 ∷ 102 ∷ 103 ∷ 104 ∷ 105 ∷ 106 ∷ 4294967295 ∷ 108 ∷ 109 ∷ 110 ∷ 111 ∷ 112 ∷ 113 ∷ 114 ∷ 115 ∷ []

-- the clock is two steps before it does
abbrev clock : Clock
clock = record { common = 4294967294; counts = counts }

abbrev later : ℕ → ℕ → ℕ → Clock
later common i count = record { common = common; counts = take i counts ++ count ∷ drop (i + 1) counts }

-- ---- Steps (R8, R12)

-- a cooperative and its steps; then the clock, and that cooperative's count
abbrev steps : List (ℕ × ℕ × ℕ × ℕ)
steps =
    (0, 1, 4294967295, 101)
    ∷ (3, 0, 4294967294, 103)
    ∷ (15, 2, 0, 117)
    ∷ (7, 1, 4294967295, 0)
    ∷ (7, 5, 3, 4)
    ∷ []

counted : map (λ (row : ℕ × ℕ × ℕ × ℕ). spend_many (record { budget = 10; cooperative = row.0 }) row.1 clock) steps
    ≡ map {B = Clock} (λ (row : ℕ × ℕ × ℕ × ℕ). later row.2 row.0 row.3) steps
unfolding spend_many
counted = refl

-- ---- Deadlines (R9)

-- a clock and a deadline: at it, 2^31 - 1 steps after it and 2^31; one step before it; and through zero, both ways
due :
    map {B = Bool} (λ (row : ℕ × ℕ). due_of row.0 row.1)
    ((1000, 1000) ∷ (2147484647, 1000) ∷ (2147484648, 1000) ∷ (999, 1000) ∷ (5, 4294967290) ∷ (4294967290, 5) ∷ [])
    ≡ true ∷ true ∷ false ∷ false ∷ true ∷ false ∷ []
due = refl

-- ---- Runs (F27, J12, R6, R7)

-- P, whether halted, and the image: NOP at 5, a word that is no instruction at 6, a HLT everywhere else
abbrev at : ℕ → Bool → List ℕ → State
at p halted image =
    state (record {
      registers = record { a = 0; b = 0; c = false };
      p = p;
      switches = record { one = false; two = false; three = false; four = false };
      halted = halted;
    }) image

abbrev image : List ℕ
image = slice_set (slice_set (replicate 16384 0) 5 0o101000) 6 0o026000

abbrev ask : ℕ → ℕ → Request
ask cooperative budget = record { cooperative = cooperative; budget = budget }

-- runs that make steps: how they end, the steps, and the record
abbrev Row : Type 0
Row = String × Request × State × Outcome × ℕ × Clock

abbrev runs : List Row
runs =
    ("the last cooperative", ask 15 10, at 9 false image, Halted, 1, later 4294967295 15 116)
    ∷ ("a step before one that fails is counted", ask 2 10, at 5 false image, Failed UnknownWord, 1, later 4294967295 2 103)
    ∷ ("a spent run", ask 7 1, at 5 false image, Spent, 1, later 4294967295 7 0)
    ∷ []

answered :
    map (λ (row : Row). let r = report_of row.1 clock (run_def row.1 row.2) in (r.outcome, r.steps, r.clock)) runs
    ≡ map {B = Outcome × ℕ × Clock} (λ (row : Row). (row.3, row.4, row.5)) runs
unfolding run_def run_from step_def decode_def shift_of generic_of find_word generics memory_of generic_def unary_of skips_of spend_many
answered = refl

-- runs that make none: how they end
abbrev Idle : Type 0
Idle = String × Request × State × Outcome

abbrev idles : List Idle
idles =
    ("a halted state", ask 2 10, at 9 true image, Halted)
    ∷ ("a budget of 0", ask 2 0, at 9 false image, Spent)
    ∷ ("the first step fails", ask 2 10, at 6 false image, Failed UnknownWord)
    ∷ ("a wrong image", ask 2 10, at 9 false (0 ∷ image), Failed WrongImage)
    ∷ ("a wrong P", ask 2 10, at 16384 false image, Failed WrongP)
    ∷ ("a wrong budget", ask 2 1000001, at 9 false image, Failed OverBudget)
    ∷ ("a wrong image and P", ask 2 10, at 16384 false (0 ∷ image), Failed WrongImage)
    ∷ ("a wrong image and budget", ask 2 1000001, at 9 false (0 ∷ image), Failed WrongImage)
    ∷ ("a wrong P and budget", ask 2 1000001, at 16384 false image, Failed WrongP)
    ∷ ("a cooperative above 15", ask 16 10, at 9 false image, Failed WrongCooperative)
    ∷ ("one that is 0 in eight bits", ask 256 10, at 9 false image, Failed WrongCooperative)
    ∷ ("one that is 0 in sixteen bits", ask 65536 10, at 9 false image, Failed WrongCooperative)
    ∷ ("a wrong cooperative and image", ask 16 10, at 9 false (0 ∷ image), Failed WrongCooperative)
    ∷ ("a wrong cooperative and P", ask 16 10, at 16384 false image, Failed WrongCooperative)
    ∷ ("a wrong cooperative and budget", ask 16 1000001, at 9 false image, Failed WrongCooperative)
    ∷ ("a wrong cooperative, halted", ask 16 10, at 9 true image, Failed WrongCooperative)
    ∷ ("all of these", ask 4294967295 1000001, at 16384 true [], Failed WrongCooperative)
    ∷ []

-- state and record stay
unmoved :
    map (λ (row : Idle). let r = run_def row.1 row.2 in (r, (report_of row.1 clock r).clock)) idles
    ≡ map {B = Ran × Clock} (λ (row : Idle). (idle row.3 row.2, clock)) idles
unfolding run_def run_from step_def decode_def shift_of generic_of find_word generics memory_of spend_many
unmoved = refl
