use Rattle.prelude.specs.Choice.{find}
use Rattle.layout.specs.Words.{test_slot}
use Rattle.expressions.specs.Vocabulary.{looked_up}
use Rattle.expressions.proofs.vocabulary.test.Goals as goal

pub returns-in-Minus : goal.returns-in-Minus
unfolding looked_up find test_slot
returns-in-Minus c = rw c.in-Minus.is

pub returns-in-Odd : goal.returns-in-Odd
unfolding looked_up find test_slot
returns-in-Odd c = rw c.in-Odd.is

pub returns-in-Even : goal.returns-in-Even
unfolding looked_up find test_slot
returns-in-Even c = rw c.in-Even.is
