use borrow.Author.Tests.{eq-eqb, ne_eqb}
use Rattle.text.proofs.Laws.{and_then}
use Rattle.report.specs.Shown.{steps_text}
use Rattle.report.proofs.run.put_steps.Goals as goal

pub returns-then-steps-eq1 : goal.returns-then-steps-eq1
unfolding steps_text
returns-then-steps-eq1 c = rw (eq-eqb _ _ c.if-steps-eq1.true) (and_then c.decimal.ensures c.put.ensures)

pub returns : goal.returns
unfolding steps_text
returns c = rw (ne_eqb _ _ c.if-steps-eq1.false) (and_then c.decimal.ensures c.put-2.ensures)
