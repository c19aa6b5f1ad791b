use native.Mathlib.Omega.{arith}
use Rattle.symbols.specs.Table.{with_words, with_row}
use Rattle.symbols.proofs.Table.{declared_room}
use Rattle.symbols.proofs.declare.Goals as goal

pub returns-then-count-table : goal.returns-then-count-table
unfolding with_row with_words
returns-then-count-table c = rw c.data_of-data.ensures (declared_room _ _ _ _ _ (omega arith))
