-- The laws of runs, and of lists of them, over the definitions that the machine's function is proved to equal.
use Rattle.std.specs.Prelude.{ℕ, suc, ◌+◌, ◌≤◌, ◌<◌, ◌≡◌, true, false, List, [], ◌∷◌}
use Rattle.machine.specs.declared.Clock.{Clock}
use Rattle.machine.specs.declared.Request.{Request}
use Rattle.machine.specs.declared.failure.Failure.{Failure}
use Rattle.machine.specs.declared.Outcome.TheVariants.{Halted, Spent}
use Rattle.machine.specs.Failure.{refused}
use Rattle.machine.specs.State.{State, Good}
use Rattle.machine.specs.Step.{made, step_def}
use Rattle.machine.specs.Run.{idle, run_from, run_def}
use Rattle.runs.specs.Steps.{Steps}
use Rattle.runs.specs.Outcomes.{Ended, RefusedExactly, Allowed}
use Rattle.runs.specs.Runs.{Turn, runs_def}
use Rattle.runs.specs.Calls.{told, call_of}

-- v, but for its budget
abbrev pub with_budget : Turn → ℕ → Turn
with_budget v n = record { request = record { budget = n; cooperative = v.request.cooperative } }

-- a run of n, then one of m that goes on from what it left, come to the run of n + m: in budgets, steps and state (image too), in the outcome, and in the clock
-- record that the second call leaves
pub record Resumed (v : Turn) (n m : ℕ) (s : State) : Type 0 where
  pub total : runs_def (with_budget v n ∷ with_budget v m ∷ []) s ≡ runs_def (with_budget v (n + m) ∷ []) s
  pub clock : (k : Clock) → let first = call_of (with_budget v n) k s in
      (call_of (with_budget v m) first.report.clock (told first).state).report.clock ≡ (call_of (with_budget v (n + m)) k s).report.clock
  pub outcome : (run_def (with_budget v m).request (run_def (with_budget v n).request s).state).outcome ≡ (run_def (with_budget v (n + m)).request s).outcome

-- a list of runs is one iteration of the step, for as many steps as it is granted (R10)
pub record AsOne (vs : List Turn) (s : State) : Type 0 where
  pub state : (runs_def vs s).state ≡ (run_from (runs_def vs s).granted s).state
  pub work : (runs_def vs s).work ≡ (run_from (runs_def vs s).granted s).work

pub record RunLaws : Type 0 where
  -- a run is refused exactly on its cause
  pub refusals : (q : Request) (s : State) (f : Failure) → RefusedExactly q s f
  -- any other run is the iteration of the step
  pub allowed : (q : Request) (s : State) → refused (run_def q s).outcome ≡ false → Allowed q s
  -- it made the steps that it reports, and ended as its outcome says: none are made up (C3)
  pub ended : (q : Request) (s : State) → refused (run_def q s).outcome ≡ false → Ended q.budget s (run_def q s)
  -- a halted state stays as it is, whatever the budget (R5)
  pub halted : (q : Request) (s : State) → refused (run_def q s).outcome ≡ false → s.machine.halted ≡ true → run_def q s ≡ idle Halted s
  -- P stays below 16,384 and the image keeps its 16,384 words, over every step and every run that is not refused
  pub step_keeps : (s t : State) → Good s → step_def s ≡ made t → Good t
  pub run_keeps : (q : Request) (s : State) → refused (run_def q s).outcome ≡ false → Good (run_def q s).state
  -- a run that is spent can be gone on with, as if it had had both budgets
  pub resumed : (v : Turn) (n m : ℕ) (s : State) → n + m ≤ 1000000 → (run_def (with_budget v n).request s).outcome ≡ Spent → Resumed v n m s
  -- a list of runs, whatever the requests, refused ones included
  pub list : (vs : List Turn) (s : State) → AsOne vs s
  -- where n steps lead to u, and n are granted, the list makes just those
  pub reached : (vs : List Turn) {n : ℕ} {s u : State} → Steps n s u → (runs_def vs s).granted ≡ n
      → ((runs_def vs s).state ≡ u) × ((runs_def vs s).work.steps ≡ n)
  -- where the step after those n is a halt, and more than n are granted, the list makes that step too, and no other
  pub halts : (vs : List Turn) {n : ℕ} {s u t : State} → Steps n s u → u.machine.halted ≡ false → step_def u ≡ made t
      → t.machine.halted ≡ true → n < (runs_def vs s).granted → ((runs_def vs s).state ≡ t) × ((runs_def vs s).work.steps ≡ suc n)
  -- where n steps can be made, none a halt, and no more than n are granted, the list makes every step that it is granted and is not halted
  pub all_made : (vs : List Turn) {n : ℕ} {s u : State} → Steps n s u → u.machine.halted ≡ false → (runs_def vs s).granted ≤ n
      → ((runs_def vs s).state.machine.halted ≡ false) × ((runs_def vs s).work.steps ≡ (runs_def vs s).granted)
