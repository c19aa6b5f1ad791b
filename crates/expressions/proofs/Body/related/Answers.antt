use Rattle.expressions.proofs.ComparingLaws.{related_failed, related_read}
use Rattle.expressions.proofs.Body.related.Goals as goal

pub returns-in_default : goal.returns-in_default
returns-in_default c = related_failed (c.emit_read-compared.ensures _ c.lone_cell_at-read.ensures) c.unwrap_err.ensures

pub returns : goal.returns
returns c = related_read (c.emit_read-compared.ensures _ c.lone_cell_at-read.ensures) c.in-Ok.is c.emit_relation.ensures
