use mathlib.Core.Path.{refl}
use Rattle.parser.specs.Reads.Reads.{read, fails}
use Rattle.parser.proofs.ReadLaws.{came, failed_as, kept_as}
use Rattle.statements.specs.Forms.{stored_words}
use Rattle.statements.proofs.Forms.{then_words}
use Rattle.statements.proofs.assignment.store.Goals as goal

pub returns-in_default : goal.returns-in_default
returns-in_default c = let r = c.assigned-read.ensures in
    fails (failed_as r c.in_default.is) c.in_default.is (kept_as r c.in_default.is)

pub returns : goal.returns
unfolding stored_words
returns c = let x = came c.assigned-read.ensures c.in-Ok.is in
    read x.is refl (then_words _ x.holds c.emit_cell.ensures.emitted)
