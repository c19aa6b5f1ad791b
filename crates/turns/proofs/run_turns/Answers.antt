use mathlib.Core.Path.{refl}
use native.Mathlib.Omega.{arith}
use borrow.Author.Rules.{rules}
use Rattle.turns.proofs.Turns.{turn_reported, turns_onward, turns_last, turns_done}
use Rattle.turns.proofs.run_turns.Goals as goal

pub returns-in_default : goal.returns-in_default
returns-in_default c = let l = c.loop in
    let e = turns_last _ _ _ _ _ l.invariant.0 (omega arith) (turn_reported _ _ _ _ c.run-report.ensures) c.in_default.not-Spent in
    rw (e, c.from-steps.ensures) (refl, refl)

pub loop-preserved : goal.loop-preserved
loop-preserved c = let l = c.loop in (
  rw c.from-steps.ensures (turns_onward _ _ _ _ _ l.invariant.0 (omega arith) (turn_reported _ _ _ _ c.run-report.ensures) c.in-Spent.is),
  search rules,
  omega arith,
  search rules,
)

pub returns : goal.returns
returns c = rw (turns_done _ _ _ _ _ c.loop.invariant.0 c.loop-test.false) (refl, refl)
