-- Lists of runs.
use Rattle.std.specs.Prelude.{ℕ, ◌+◌, cond, List, [], ◌∷◌}
use Rattle.machine.specs.declared.Request.{Request}
use Rattle.machine.specs.Failure.{refused}
use Rattle.machine.specs.State.{State}
use Rattle.machine.specs.Run.{Work, no_work, add_work, Ran, run_def}

-- one run of a list: what is asked for (R10)
pub record Turn : Type 0 where
  pub request : Request

-- what the runs come to: what they are granted, a plain number; all the steps made; the state that the last one leaves (R10)
pub record Total : Type 0 where
  pub granted : ℕ
  pub work : Work
  pub state : State

-- no run
abbrev pub no_run : State → Total
no_run s = record { granted = 0; work = no_work; state = s }

-- a run before others: where it is refused, its budget is not granted (R10)
abbrev pub with_run : Turn → Ran → Total → Total
with_run v r t =
    record { granted = cond (refused r.outcome) 0 v.request.budget + t.granted; work = add_work r.work t.work; state = t.state }

-- one run after the other, all on one state (R10)
unfoldable pub runs_def : List Turn → State → Total
runs_def [] s = no_run s
runs_def (v ∷ vs) s = let r = run_def v.request s in with_run v r (runs_def vs r.state)

-- some list of runs from a state comes to a total
pub data Comes (s : State) : Total → Type 0 where
  list : (vs : List Turn) → Comes s (runs_def vs s)
