-- A run for other languages: the machine, the clock record, the request and the report as slices of numbers (R11).
use Rattle.std.specs.Prelude.{ℕ, ◌≤◌, ◌≡◌, Bool, cond, ◌&&◌, List, [], ◌∷◌, eqb, leb, length, get_or, set, drop}
use Rattle.word.specs.Arithmetic.{bit}
use Rattle.machine.specs.declared.Clock.{Clock}
use Rattle.machine.specs.declared.Request.{Request}
use Rattle.machine.specs.declared.Machine.{Machine}
use Rattle.machine.specs.declared.Report.{Report}
use Rattle.machine.specs.declared.Outcome.{Outcome}
use Rattle.machine.specs.declared.Outcome.TheVariants.{Halted, Spent, Failed}
use Rattle.machine.specs.Failure.{failure_of}
use Rattle.machine.specs.State.{state}
use Rattle.machine.specs.Run.{Ran, run_def, report_of}
use Rattle.machine_export.specs.Places.{A, B, C, P, SWITCH_1, SWITCH_2, SWITCH_3, SWITCH_4, HALTED, MACHINE, COMMON, COUNTS, CLOCK, BUDGET, COOPERATIVE, REQUEST, OUTCOME, FAILURE, STEPS, REPORT}

-- the four slices of a call
pub record Numbers : Type 0 where
  pub machine : List ℕ
  pub clock : List ℕ
  pub request : List ℕ
  pub report : List ℕ

abbrev pub numbers : List ℕ → List ℕ → List ℕ → List ℕ → Numbers
numbers machine clock request report = record { machine = machine; clock = clock; request = request; report = report }

-- ---- What is handed in

-- each slice has its length (R11)
abbrev pub sized : Numbers → Bool
sized n =
    eqb (length n.machine) MACHINE && eqb (length n.clock) CLOCK && eqb (length n.request) REQUEST && eqb (length n.report) REPORT

abbrev pub is_word : List ℕ → ℕ → Bool
is_word machine place = leb (get_or machine place 0) 65535

abbrev pub is_flag : List ℕ → ℕ → Bool
is_flag machine place = leb (get_or machine place 0) 1

abbrev pub words_fit : List ℕ → Bool
words_fit machine = is_word machine A && is_word machine B && is_word machine P

abbrev pub flags_fit : List ℕ → Bool
flags_fit machine =
    is_flag machine C && is_flag machine SWITCH_1 && is_flag machine SWITCH_2 && is_flag machine SWITCH_3 && is_flag machine SWITCH_4 && is_flag machine HALTED

-- all the numbers, of which A, B and P are words, and C, the switches and halted 0 or 1; with any others there is no run, and nothing changes (R11)
unfoldable pub fits_of : Numbers → Bool
fits_of n = sized n && words_fit n.machine && flags_fit n.machine

-- the part of `fits_of` that reading and writing ask for: that A, B and P are words, and the lengths
pub record WordsFit (machine : List ℕ) : Type 0 where
  pub a : get_or machine A 0 ≤ 65535
  pub b : get_or machine B 0 ≤ 65535
  pub p : get_or machine P 0 ≤ 65535

pub record Fitting (n : Numbers) : Type 0 where
  pub machine : length n.machine ≡ MACHINE
  pub clock : length n.clock ≡ CLOCK
  pub request : length n.request ≡ REQUEST
  pub report : length n.report ≡ REPORT
  pub words : WordsFit n.machine

abbrev pub flag_of : List ℕ → ℕ → Bool
flag_of machine place = eqb (get_or machine place 0) 1

unfoldable pub machine_of : List ℕ → Machine
machine_of machine =
    record {
      registers = record { a = get_or machine A 0; b = get_or machine B 0; c = flag_of machine C };
      p = get_or machine P 0;
      switches = record { one = flag_of machine SWITCH_1; two = flag_of machine SWITCH_2; three = flag_of machine SWITCH_3; four = flag_of machine SWITCH_4 };
      halted = flag_of machine HALTED;
    }

abbrev pub clock_of : List ℕ → Clock
clock_of clock = record { common = get_or clock COMMON 0; counts = drop COUNTS clock }

abbrev pub request_of : List ℕ → Request
request_of request = record { budget = get_or request BUDGET 0; cooperative = get_or request COOPERATIVE 0 }

-- ---- What comes back

-- how the run ended, as a number (C5)
abbrev pub outcome_of : Outcome → ℕ
outcome_of Halted = 0
outcome_of Spent = 1
outcome_of (Failed f) = 2

-- the numbers with others at these places
unfoldable pub stored : List (ℕ × ℕ) → List ℕ → List ℕ
stored [] numbers = numbers
stored (other ∷ others) numbers = stored others (set numbers other.0 other.1)

-- the slices with a machine, a clock record and a report in them
unfoldable pub with_machine : List ℕ → Machine → List ℕ
with_machine numbers machine =
    let r = machine.registers in
    let s = machine.switches in
    stored
    ((A, r.a) ∷ (B, r.b) ∷ (C, bit r.c) ∷ (P, machine.p) ∷
    (SWITCH_1, bit s.one) ∷ (SWITCH_2, bit s.two) ∷ (SWITCH_3, bit s.three) ∷ (SWITCH_4, bit s.four) ∷
    (HALTED, bit machine.halted) ∷ [])
    numbers

abbrev pub clock_numbers : Clock → List ℕ
clock_numbers clock = clock.common ∷ clock.counts

unfoldable pub with_report : List ℕ → Report → List ℕ
with_report numbers report =
    stored ((OUTCOME, outcome_of report.outcome) ∷ (FAILURE, failure_of report.outcome) ∷ (STEPS, report.steps) ∷ []) numbers

-- ---- A call

-- the run that the numbers ask for
abbrev pub ran_of : Numbers → List ℕ → Ran
ran_of n image = run_def (request_of n.request) (state (machine_of n.machine) image)

abbrev pub report_for : Numbers → List ℕ → Report
report_for n image = report_of (request_of n.request) (clock_of n.clock) (ran_of n image)

-- what it leaves of the image and of the numbers
abbrev pub image_left : Numbers → List ℕ → List ℕ
image_left n image = cond (fits_of n) (ran_of n image).state.image image

abbrev pub numbers_left : Numbers → List ℕ → Numbers
numbers_left n image =
    let r = report_for n image in
    cond (fits_of n) (numbers (with_machine n.machine r.machine) (clock_numbers r.clock) n.request (with_report n.report r)) n

-- its answer says whether the numbers were a call's, and so whether there was a run
abbrev pub Called : Numbers → List ℕ → Bool → Numbers → List ℕ → Type 0
Called n image answer n_after image_after = (answer ≡ fits_of n) × (image_after ≡ image_left n image) × (n_after ≡ numbers_left n image)
