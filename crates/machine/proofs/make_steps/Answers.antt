use Rattle.std.proofs.Common.{◌≡◌, sym, ◌∙◌, subst, arith}
use Rattle.machine.specs.State.{state}
use Rattle.machine.specs.Step.{step_def, made}
use Rattle.machine.proofs.Good.{GoodStep, step_good, step_made}
use Rattle.machine.proofs.RunSteps.{run_onward}
use Rattle.machine.proofs.make_steps.Goals as goal

pub loop-m-preserved : goal.loop-m-preserved
loop-m-preserved c =
    let made-step : step_def (state c.loop-m.m c.loop-m.image) ≡ made (state c.in-Ok.next c.step-stepped.new.image) =
    step_made _ _ _ (sym c.step-stepped.ensures.0 ∙ c.in-Ok.is) c.step-stepped.ensures.1 in
    let l = c.loop-m in
    let e = made-step in
    let g = subst GoodStep e (step_good (state l.m l.image) l.invariant.1) in
    (run_onward _ _ _ _ _ l.invariant.0 c.if-m.false (omega arith) e, g, omega arith, g.0 ∙ sym l.invariant.1.0 ∙ l.invariant.3)
