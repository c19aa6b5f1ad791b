-- The laws of runs, put together.
use mathlib.Core.Path.{◌≡◌, subst, sym, ◌∙◌}
use mathlib.Core.Bool.{true, false}
use Rattle.machine.specs.declared.Request.{Request}
use Rattle.machine.specs.declared.Outcome.TheVariants.{Halted}
use Rattle.machine.specs.Failure.{refused}
use Rattle.machine.specs.State.{State}
use Rattle.machine.specs.Run.{idle, run_def}
use Rattle.machine.proofs.RunSteps.{run_halted}
use Rattle.runs.specs.Outcomes.{Ended}
use Rattle.runs.specs.RunLaws.{RunLaws}
use Rattle.runs.proofs.Iteration.{run_ends}
use Rattle.runs.proofs.Refusals.{refusals, allowed}
use Rattle.runs.proofs.Keeping.{step_keeps, run_keeps}
use Rattle.runs.proofs.Lists.{list, resumed, reached, halts, all_made}

ended : (q : Request) (s : State) → refused (run_def q s).outcome ≡ false → Ended q.budget s (run_def q s)
ended q s h = subst (Ended q.budget s) (sym (allowed q s h).run) (run_ends q.budget s)

halted : (q : Request) (s : State) → refused (run_def q s).outcome ≡ false → s.machine.halted ≡ true → run_def q s ≡ idle Halted s
halted q s h d = (allowed q s h).run ∙ run_halted q.budget s d

pub run_laws : RunLaws
run_laws = record {
  refusals = refusals;
  allowed = allowed;
  ended = ended;
  halted = halted;
  step_keeps = step_keeps;
  run_keeps = run_keeps;
  resumed = resumed;
  list = list;
  reached = reached;
  halts = halts;
  all_made = all_made;
}

pub ruleset for_run_laws = (run_laws)
