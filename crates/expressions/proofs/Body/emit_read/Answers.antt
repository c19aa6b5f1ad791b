use mathlib.Core.Path.{refl}
use Rattle.symbols.specs.Trees.{tree_cell}
use Rattle.emitter.proofs.Lays.{here, words}
use Rattle.parser.specs.Reads.Reads.{read, fails}
use Rattle.parser.proofs.Answers.{gives_read, gives_failed}
use Rattle.expressions.proofs.Body.emit_read.Goals as goal

pub returns-in_default : goal.returns-in_default
returns-in_default c = λ g h. fails (gives_failed tree_cell h c.unwrap_err.ensures) refl here

pub returns : goal.returns
returns c = λ g h. read (gives_read tree_cell h c.in-Ok.is) refl (rw c.emit_cell.ensures.emitted (words _))
