-- Worked examples of the numbers, decided by computation: each place has a value of its own, so that no two can be exchanged.
use Rattle.std.specs.Prelude.{ℕ, ◌≡◌, refl, Bool, true, false, List, [], ◌∷◌, map, get_or, set, replicate}
use Rattle.instruction.specs.Table.{generics}
use Rattle.instruction.specs.Decode.{find_word, generic_of, shift_of, memory_of, decode_def}
use Rattle.machine.specs.declared.Clock.{Clock}
use Rattle.machine.specs.declared.Request.{Request}
use Rattle.machine.specs.declared.Machine.{Machine}
use Rattle.machine.specs.declared.Report.{Report}
use Rattle.machine.specs.declared.failure.Failure.TheVariants.{UnknownWord, LongChain}
use Rattle.machine.specs.declared.Outcome.TheVariants.{Halted, Spent, Failed}
use Rattle.machine.specs.Address.{follow_of}
use Rattle.machine.specs.Step.{memory_def, generic_def, step_def}
use Rattle.machine.specs.Clock.{spend_many}
use Rattle.machine.specs.Run.{run_from, run_def}
use Rattle.machine_export.specs.Places.{MACHINE, REPORT}
use Rattle.machine_export.specs.Export.{Numbers, numbers, fits_of, machine_of, clock_of, request_of, outcome_of, stored, with_machine, clock_numbers, with_report, image_left, numbers_left}

abbrev machine : Machine
machine =
    record {
      registers = record { a = 11; b = 12; c = true };
      p = 13;
      switches = record { one = true; two = false; three = false; four = true };
      halted = false;
    }

abbrev counts : List ℕ
counts = 20 ∷ 21 ∷ 22 ∷ 23 ∷ 24 ∷ 25 ∷ 26 ∷ 27 ∷ 28 ∷ 29 ∷ 30 ∷ 31 ∷ 32 ∷ 33 ∷ 34 ∷ 35 ∷ []

abbrev clock : Clock
clock = record { common = 14; counts = counts }

-- ---- Read and written

-- A, B, C, P, the switches and halted (R11)
abbrev machine_numbers : List ℕ
machine_numbers = 11 ∷ 12 ∷ 1 ∷ 13 ∷ 1 ∷ 0 ∷ 0 ∷ 1 ∷ 0 ∷ []

read : machine_of machine_numbers ≡ machine
unfolding machine_of
read = refl

written : with_machine (replicate MACHINE 99) machine ≡ machine_numbers
unfolding with_machine stored
written = refl

-- each of C, the switches and halted set alone: a flag has two values only, so those above could be exchanged
abbrev flagged : Bool → Bool → Bool → Bool → Bool → Bool → Machine
flagged c one two three four halted =
    record { registers = record { a = 0; b = 0; c = c }; p = 0; switches = record { one = one; two = two; three = three; four = four }; halted = halted }

abbrev single_flags : List (List ℕ × Machine)
single_flags =
    (0 ∷ 0 ∷ 1 ∷ 0 ∷ 0 ∷ 0 ∷ 0 ∷ 0 ∷ 0 ∷ [], flagged true false false false false false) ∷
    (0 ∷ 0 ∷ 0 ∷ 0 ∷ 1 ∷ 0 ∷ 0 ∷ 0 ∷ 0 ∷ [], flagged false true false false false false) ∷
    (0 ∷ 0 ∷ 0 ∷ 0 ∷ 0 ∷ 1 ∷ 0 ∷ 0 ∷ 0 ∷ [], flagged false false true false false false) ∷
    (0 ∷ 0 ∷ 0 ∷ 0 ∷ 0 ∷ 0 ∷ 1 ∷ 0 ∷ 0 ∷ [], flagged false false false true false false) ∷
    (0 ∷ 0 ∷ 0 ∷ 0 ∷ 0 ∷ 0 ∷ 0 ∷ 1 ∷ 0 ∷ [], flagged false false false false true false) ∷
    (0 ∷ 0 ∷ 0 ∷ 0 ∷ 0 ∷ 0 ∷ 0 ∷ 0 ∷ 1 ∷ [], flagged false false false false false true) ∷ []

read_flags : map {B = Machine} (λ (row : List ℕ × Machine). machine_of row.0) single_flags ≡ map {B = Machine} (λ (row : List ℕ × Machine). row.1) single_flags
unfolding machine_of
read_flags = refl

written_flags :
    map {B = List ℕ} (λ (row : List ℕ × Machine). with_machine (replicate MACHINE 99) row.1) single_flags
    ≡ map {B = List ℕ} (λ (row : List ℕ × Machine). row.0) single_flags
unfolding with_machine stored
written_flags = refl

-- the clock, then the counts (R11)
read_clock : clock_of (14 ∷ counts) ≡ clock
read_clock = refl

written_clock : clock_numbers clock ≡ 14 ∷ counts
written_clock = refl

-- the budget and the cooperative (R11)
read_request : map {B = Request} request_of ((15 ∷ 9 ∷ []) ∷ (4294967295 ∷ 65536 ∷ []) ∷ [])
    ≡ record { budget = 15; cooperative = 9 } ∷ record { budget = 4294967295; cooperative = 65536 } ∷ []
read_request = refl

-- how the run ended, its failure and its steps (R11)
abbrev reported : Report
reported = record { steps = 16; outcome = Failed UnknownWord; machine = machine; clock = clock }

written_report : with_report (replicate REPORT 99) reported ≡ 2 ∷ 20 ∷ 16 ∷ []
unfolding with_report stored
written_report = refl

endings : map {B = ℕ} outcome_of (Halted ∷ Spent ∷ Failed LongChain ∷ []) ≡ 0 ∷ 1 ∷ 2 ∷ []
endings = refl

-- ---- What fits (R11)

abbrev of_machine : List ℕ → Numbers
of_machine m = numbers m (replicate 17 0) (replicate 2 0) (replicate 3 0)

-- the largest that fit; then A, B, P, C, each switch and halted too large in turn
fits :
    map {B = Bool} fits_of
    (numbers (65535 ∷ 65535 ∷ 1 ∷ 65535 ∷ 1 ∷ 1 ∷ 1 ∷ 1 ∷ 1 ∷ []) (replicate 17 4294967295) (replicate 2 4294967295) (replicate 3 4294967295) ∷
    map {B = Numbers} of_machine
    ((65536 ∷ replicate 8 0) ∷ (0 ∷ 65536 ∷ replicate 7 0) ∷ (0 ∷ 0 ∷ 0 ∷ 65536 ∷ replicate 5 0) ∷
    (0 ∷ 0 ∷ 2 ∷ replicate 6 0) ∷ (0 ∷ 0 ∷ 0 ∷ 0 ∷ 2 ∷ replicate 4 0) ∷ (0 ∷ 0 ∷ 0 ∷ 0 ∷ 0 ∷ 2 ∷ replicate 3 0) ∷
    (0 ∷ 0 ∷ 0 ∷ 0 ∷ 0 ∷ 0 ∷ 2 ∷ replicate 2 0) ∷ (0 ∷ 0 ∷ 0 ∷ 0 ∷ 0 ∷ 0 ∷ 0 ∷ 2 ∷ 0 ∷ []) ∷ (0 ∷ 0 ∷ 0 ∷ 0 ∷ 0 ∷ 0 ∷ 0 ∷ 0 ∷ 2 ∷ []) ∷ []))
    ≡ true ∷ replicate 9 false
unfolding fits_of
fits = refl

abbrev of_sizes : ℕ × ℕ × ℕ × ℕ → Numbers
of_sizes n = numbers (replicate n.0 0) (replicate n.1 0) (replicate n.2 0) (replicate n.3 0)

-- as many numbers as there are; then one fewer and one more in each slice
sizes :
    map {B = Bool} (λ (n : ℕ × ℕ × ℕ × ℕ). fits_of (of_sizes n))
    ((9, 17, 2, 3) ∷ (8, 17, 2, 3) ∷ (10, 17, 2, 3) ∷ (9, 16, 2, 3) ∷ (9, 18, 2, 3) ∷ (9, 17, 1, 3) ∷ (9, 17, 3, 3) ∷ (9, 17, 2, 2) ∷ (9, 17, 2, 4) ∷ [])
    ≡ true ∷ replicate 8 false
unfolding fits_of
sizes = refl

-- ---- A call

-- refused with 27: only the report changes (F27, R7)
refused_call : numbers_left (numbers machine_numbers (14 ∷ counts) (15 ∷ 16 ∷ []) (7 ∷ 7 ∷ 7 ∷ [])) [] ≡ numbers machine_numbers (14 ∷ counts) (15 ∷ 16 ∷ []) (2 ∷ 27 ∷ 0 ∷ [])
unfolding fits_of machine_of run_def spend_many with_machine with_report stored
refused_call = refl

-- a HLT, for the last cooperative: P, halted, the clock, its count and the report change (R8, R12)
halting_call :
    numbers_left (numbers machine_numbers (14 ∷ counts) (15 ∷ 15 ∷ []) (7 ∷ 7 ∷ 7 ∷ [])) (replicate 16384 0)
    ≡ numbers (11 ∷ 12 ∷ 1 ∷ 14 ∷ 1 ∷ 0 ∷ 0 ∷ 1 ∷ 1 ∷ [])
    (15 ∷ 20 ∷ 21 ∷ 22 ∷ 23 ∷ 24 ∷ 25 ∷ 26 ∷ 27 ∷ 28 ∷ 29 ∷ 30 ∷ 31 ∷ 32 ∷ 33 ∷ 34 ∷ 36 ∷ []) (15 ∷ 15 ∷ []) (0 ∷ 0 ∷ 1 ∷ [])
unfolding fits_of machine_of run_def run_from step_def decode_def shift_of generic_of find_word generics memory_of generic_def spend_many with_machine with_report stored
halting_call = refl

-- STA '200 at 13: the word is stored
storing_call : get_or (image_left (numbers machine_numbers (14 ∷ counts) (1 ∷ 15 ∷ []) (7 ∷ 7 ∷ 7 ∷ [])) (set (replicate 16384 0) 13 0o010200)) 0o200 0 ≡ 11
unfolding fits_of machine_of run_def run_from step_def decode_def memory_of follow_of memory_def
storing_call = refl

-- numbers that do not fit: nothing changes
unfit_call : numbers_left (of_sizes (9, 17, 2, 4)) (7 ∷ []) ≡ of_sizes (9, 17, 2, 4)
unfolding fits_of
unfit_call = refl

unfit_image : image_left (of_sizes (9, 17, 2, 4)) (7 ∷ []) ≡ 7 ∷ []
unfolding fits_of
unfit_image = refl
