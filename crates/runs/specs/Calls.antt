-- Calls of `run`, as a caller sees them: what each is handed and what it gives back.
use Rattle.std.specs.Prelude.{ℕ, ◌≡◌, List}
use Rattle.machine.specs.declared.Clock.{Clock}
use Rattle.machine.specs.declared.Request.{Request}
use Rattle.machine.specs.declared.Report.{Report}
use Rattle.machine.specs.State.{State, state}
use Rattle.machine.specs.Run.{work, Ran, ran, run_def, report_of}
use Rattle.runs.specs.Runs.{Turn}

-- one call: what it is handed, and what it gives back
pub record RunCall : Type 0 where
  pub turn : Turn
  pub clock : Clock
  pub start : State
  pub report : Report
  pub image : List ℕ

abbrev pub run_call : Request → Clock → State → Report → List ℕ → RunCall
run_call request clock start report image =
    record { turn = record { request = request }; clock = clock; start = start; report = report; image = image }

-- the run that it asks for
abbrev pub asked : RunCall → Ran
asked c = run_def c.turn.request c.start

-- and the one that its report tells of
abbrev pub told : RunCall → Ran
told c = ran (work c.report.steps) c.report.outcome (state c.report.machine c.image)

-- what such a call ensures, no more
pub record RunCalled (c : RunCall) : Type 0 where
  pub reported : c.report ≡ report_of c.turn.request c.clock (asked c)
  pub left : c.image ≡ (asked c).state.image

-- the call that a turn makes on a clock record and a state
abbrev pub call_of : Turn → Clock → State → RunCall
call_of v clock s =
    let r = run_def v.request s in
    record { turn = v; clock = clock; start = s; report = report_of v.request clock r; image = r.state.image }
