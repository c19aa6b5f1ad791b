use mathlib.Core.Path.{refl}
use Rattle.grammar.specs.Statements.{parse_element}
use Rattle.layout.specs.Words.{target_cell}
use Rattle.symbols.specs.Trees.{tree_subscript, tree_cell}
use Rattle.parser.specs.Reads.Reads.{fails}
use Rattle.parser.proofs.Answers.{then_failed, gives_read, gives_failed, onward}
use Rattle.emitter.proofs.Lays.{here}
use Rattle.statements.proofs.Forms.{from_got}
use Rattle.statements.proofs.AssignmentLaws.{stored_as}
use Rattle.statements.proofs.assignment.element.Goals as goal

pub returns-in_default : goal.returns-in_default
unfolding parse_element
returns-in_default c = fails (onward (gives_failed tree_subscript c.subscript_at-found.ensures c.unwrap_err.ensures) (then_failed _)) refl here

pub returns : goal.returns
unfolding parse_element tree_cell target_cell
returns c = from_got _ (gives_read tree_subscript c.subscript_at-found.ensures c.in-Ok.is) (stored_as _ _ _ _ _ c.store.ensures)
