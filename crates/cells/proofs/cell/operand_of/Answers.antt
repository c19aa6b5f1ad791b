use Rattle.cells.specs.Starts.{operand_by}
use Rattle.parser.proofs.Answers.{onward, refused_any}
use Rattle.cells.proofs.StartNames.{no_operand}
use Rattle.cells.proofs.cell.operand_of.Goals as goal

pub returns-in_default : goal.returns-in_default
unfolding operand_by
returns-in_default c = rw (no_operand _ c.in_default.in_default-own.keys4) (onward c.refused.ensures (refused_any _))
