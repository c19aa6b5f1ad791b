-- Worked examples of calls on one clock record, decided by computation.
use Rattle.std.specs.Prelude.{ℕ, ◌≡◌, refl, false, List, [], ◌∷◌, ◌++◌, map, set, replicate}
use Rattle.instruction.specs.Table.{generics}
use Rattle.instruction.specs.Decode.{find_word, generic_of, shift_of, memory_of, decode_def}
use Rattle.effect.specs.Effects.{unary_of}
use Rattle.effect.specs.Skips.{skips_of}
use Rattle.machine.specs.declared.Clock.{Clock}
use Rattle.machine.specs.declared.failure.Failure.TheVariants.{UnknownWord, OverBudget, WrongCooperative}
use Rattle.machine.specs.declared.Outcome.{Outcome}
use Rattle.machine.specs.declared.Outcome.TheVariants.{Halted, Spent, Failed}
use Rattle.machine.specs.State.{State, state}
use Rattle.machine.specs.Step.{generic_def, step_def}
use Rattle.machine.specs.Clock.{spend_many}
use Rattle.machine.specs.Run.{run_from, run_def}
use Rattle.runs.specs.Runs.{Turn, runs_def}
use Rattle.runs.specs.RunLaws.{with_budget}
use Rattle.runs.specs.Calls.{RunCall, call_of}
use Rattle.runs.specs.ClockLaws.{CallsOn, none, one, all_steps, steps_of}

-- three NOPs from 5 on, and a HLT everywhere else
abbrev image : List ℕ
image = set (set (set (replicate 16384 0) 5 0o101000) 6 0o101000) 7 0o101000

abbrev at : ℕ → State
at p =
    state (record {
      registers = record { a = 0; b = 0; c = false };
      p = p;
      switches = record { one = false; two = false; three = false; four = false };
      halted = false;
    }) image

abbrev turn : ℕ → ℕ → Turn
turn cooperative budget = record { request = record { cooperative = cooperative; budget = budget } }

-- another budget, the same cooperative
rebudgeted : with_budget (turn 3 5) 7 ≡ turn 3 7
rebudgeted = refl

abbrev start : Clock
start = record { common = 4294967295; counts = 10 ∷ 4294967295 ∷ replicate 14 0 }

-- cooperative 1 makes two steps on a machine, and cooperative 0 goes on with it to its halt, then tries once more; cooperative 16 and a budget
-- that is too large are refused; cooperative 1 makes a step on another machine, and cooperative 15 three on a third, up to one that fails
abbrev two_steps : RunCall
two_steps = call_of (turn 1 2) start (at 5)

abbrev to_the_halt : RunCall
to_the_halt = call_of (turn 0 9) two_steps.report.clock (state two_steps.report.machine two_steps.image)

abbrev halted_before : RunCall
halted_before = call_of (turn 0 9) to_the_halt.report.clock (state to_the_halt.report.machine to_the_halt.image)

abbrev no_count : RunCall
no_count = call_of (turn 16 9) halted_before.report.clock (at 5)

abbrev over_budget : RunCall
over_budget = call_of (turn 1 1000001) no_count.report.clock (at 5)

abbrev other_machine : RunCall
other_machine = call_of (turn 1 9) over_budget.report.clock (at 9)

abbrev failing : RunCall
failing = call_of (turn 15 9) other_machine.report.clock (state (at 5).machine (set image 8 0o026000))

abbrev calls : List RunCall
calls = two_steps ∷ to_the_halt ∷ halted_before ∷ no_count ∷ over_budget ∷ other_machine ∷ failing ∷ []

steps : map {B = Outcome × ℕ} (λ (c : RunCall). (c.report.outcome, c.report.steps)) calls
    ≡ (Spent, 2) ∷ (Halted, 2) ∷ (Halted, 0) ∷ (Failed WrongCooperative, 0) ∷ (Failed OverBudget, 0) ∷ (Halted, 1) ∷ (Failed UnknownWord, 3) ∷ []
unfolding run_def run_from step_def decode_def shift_of generic_of find_word generics memory_of generic_def unary_of skips_of
steps = refl

-- of all of them, then of the cooperatives 0, 1, 2, 15 and 16
sums : all_steps calls ∷ map (λ (i : ℕ). steps_of i calls) (0 ∷ 1 ∷ 2 ∷ 15 ∷ 16 ∷ []) ≡ 8 ∷ 2 ∷ 3 ∷ 0 ∷ 3 ∷ 0 ∷ []
unfolding all_steps steps_of run_def run_from step_def decode_def shift_of generic_of find_word generics memory_of generic_def unary_of skips_of
sums = refl

on_one_record : CallsOn start calls (record { common = 7; counts = 12 ∷ 2 ∷ replicate 13 0 ++ 3 ∷ [] })
unfolding spend_many run_def run_from step_def decode_def shift_of generic_of find_word generics memory_of generic_def unary_of skips_of
on_one_record =
    one two_steps (record { reported = refl; left = refl })
    (one to_the_halt (record { reported = refl; left = refl })
    (one halted_before (record { reported = refl; left = refl })
    (one no_count (record { reported = refl; left = refl })
    (one over_budget (record { reported = refl; left = refl })
    (one other_machine (record { reported = refl; left = refl })
    (one failing (record { reported = refl; left = refl }) none))))))

-- ---- Lists of runs on one state (R10)

-- a budget that is refused, for its cooperative or because it is too large, is not granted; one that is not used up, or not at all by a halted state, is granted in full
granted : let t = runs_def (turn 16 9 ∷ turn 1 1000001 ∷ turn 1 2 ∷ turn 15 9 ∷ turn 0 4 ∷ []) (at 5) in t.granted ∷ t.work.steps ∷ [] ≡ 15 ∷ 4 ∷ []
unfolding runs_def run_def run_from step_def decode_def shift_of generic_of find_word generics memory_of generic_def unary_of skips_of
granted = refl
