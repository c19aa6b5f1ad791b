-- Every step and every run keeps the image's size and P below 16,384.
use Prim.Native.Nat.{ℕ}
use mathlib.Core.Path.{◌≡◌, subst, sym}
use mathlib.Core.Bool.{false}
use Rattle.machine.specs.declared.Request.{Request}
use Rattle.machine.specs.Failure.{refused}
use Rattle.machine.specs.State.{State, Good}
use Rattle.machine.specs.Step.{made, step_def}
use Rattle.machine.specs.Run.{Ran, run_def}
use Rattle.machine.proofs.Good.{GoodStep, step_good}
use Rattle.runs.specs.Steps.{Steps, none, one}
use Rattle.runs.proofs.Iteration.{run_ends}
use Rattle.runs.proofs.Refusals.{allowed}

pub step_keeps : (s t : State) → Good s → step_def s ≡ made t → Good t
step_keeps s t g e = subst GoodStep e (step_good s g)

pub steps_keep : {n : ℕ} {s u : State} → Steps n s u → Good s → Good u
steps_keep none g = g
steps_keep (one {s = s} {t = t} h e r) g = steps_keep r (step_keeps s t g e)

pub run_keeps : (q : Request) (s : State) → refused (run_def q s).outcome ≡ false → Good (run_def q s).state
run_keeps q s h =
    let a = allowed q s h in
    subst (λ (r : Ran). Good r.state) (sym a.run) (steps_keep (run_ends q.budget s).made a.good)
