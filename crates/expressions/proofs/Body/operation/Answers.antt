use Rattle.expressions.proofs.OperatorLaws.{binary_turn, shift_turn, no_turn}
use Rattle.expressions.proofs.Body.operation.Goals as goal

pub returns-in-Some : goal.returns-in-Some
returns-in-Some c = binary_turn _ _ _ c.operator.ensures c.in-Some.is (c.operated.ensures _ c.cell_at-read.ensures)

pub returns-in_err-kind : goal.returns-in_err-kind
returns-in_err-kind c = rw c.from_residual.ensures (no_turn _ _ _ c.operator.ensures c.in_default.is c.shift_word.ensures c.in_err-kind.was)

pub returns : goal.returns
returns c = shift_turn _ _ _ c.operator.ensures c.in_default.is c.shift_word.ensures c.in_ok-kind.was c.shifted.ensures
