-- A run of steps on a budget.
use Rattle.std.specs.Prelude.{◌≡◌, ℕ, zero, suc, ◌+◌, cond, List, length, ◌==◌, nat_le, nat_lt}
use Rattle.machine.specs.declared.Clock.{Clock}
use Rattle.machine.specs.declared.Request.{Request}
use Rattle.machine.specs.declared.Outcome.{Outcome}
use Rattle.machine.specs.declared.Outcome.TheVariants.{Halted, Spent, Failed}
use Rattle.machine.specs.declared.Machine.{Machine}
use Rattle.machine.specs.declared.Report.{Report}
use Rattle.machine.specs.declared.failure.Failure.{Failure}
use Rattle.machine.specs.declared.failure.Failure.TheVariants.{WrongImage, OverBudget, WrongP, WrongCooperative}
use Rattle.machine.specs.State.{State}
use Rattle.machine.specs.Step.{Step, made, failed, step_def}
use Rattle.machine.specs.Clock.{cooperatives, spend_many}

-- what steps add up to: their number (R2)
pub record Work : Type 0 where
  pub steps : ℕ

abbrev pub work : ℕ → Work
work n = record { steps = n }

abbrev pub no_work : Work
no_work = work 0

-- of one step, by the state that it is made from: the same for all, so far
abbrev pub work_of : State → Work
work_of s = work 1

-- of some steps and then others
abbrev pub add_work : Work → Work → Work
add_work v w = work (v.steps + w.steps)

-- what a run comes to: the steps made, how it ended, and the state that it leaves (R2)
pub record Ran : Type 0 where
  pub work : Work
  pub outcome : Outcome
  pub state : State

abbrev pub ran : Work → Outcome → State → Ran
ran w o s = record { work = w; outcome = o; state = s }

-- with no step made
abbrev pub idle : Outcome → State → Ran
idle o s = ran no_work o s

-- with work done before
abbrev pub more : Work → Ran → Ran
more w r = ran (add_work w r.work) r.outcome r.state

-- a step made is counted; one that fails ends the run, with the state before it (R6)
abbrev pub go_on : State → (State → Ran) → Step → Ran
go_on s next (made t) = more (work_of s) (next t)
go_on s next (failed f) = idle (Failed f) s

-- up to n steps, until one halts or fails (R3). Spent is a run that used them up and is not halted (R4); a halted state stays (R5)
unfoldable pub run_from : ℕ → State → Ran
run_from zero s = idle (cond s.machine.halted Halted Spent) s
run_from (suc n) s = cond s.machine.halted (idle Halted s) (go_on s (λ (t : State). run_from n t) (step_def s))

-- the whole call (R2, demand 2c): refused with 27, 1, 23 or 22 (R7, J12), else steps up to its budget, none of them made up (C3)
unfoldable pub run_def : Request → State → Ran
run_def request s =
    -- the causes of 27, 1, 23 and 22 (F27, F1, F23, F22)
    cond (nat_le cooperatives request.cooperative) (idle (Failed WrongCooperative) s)
    (cond (length s.image == 16384)
    (cond (nat_lt 16383 s.machine.p) (idle (Failed WrongP) s)
    (cond (nat_lt 1000000 request.budget) (idle (Failed OverBudget) s)
    (run_from request.budget s)))
    (idle (Failed WrongImage) s))

-- the answer of a run that began at this clock record, which its steps have moved on (R8, R12)
abbrev pub ended_of : Request → Clock → Work → Outcome → Machine → Report
ended_of request clock w o m = record { steps = w.steps; outcome = o; machine = m; clock = spend_many request w.steps clock }

-- the answer for a whole run of the definition (R2)
abbrev pub report_of : Request → Clock → Ran → Report
report_of request clock r = ended_of request clock r.work r.outcome r.state.machine

-- the answer of a run that is refused: clock record and machine are those handed in (R7)
abbrev pub refusal_of : Failure → Machine → Clock → Report
refusal_of f m clock = record { steps = 0; outcome = Failed f; machine = m; clock = clock }

-- a call reports this run, and leaves its image
abbrev pub Reports : Request → Clock → Ran → Report → List ℕ → Type 0
Reports request clock r answer after = (answer ≡ report_of request clock r) × (after ≡ r.state.image)
