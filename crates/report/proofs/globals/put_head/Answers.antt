use Rattle.text.proofs.Laws.{and_then, same_added}
use Rattle.report.proofs.Laws.{row_starts}
use Rattle.report.proofs.globals.put_head.Goals as goal

pub returns : goal.returns
returns c = same_added (row_starts _ _ _ c.if-column-ne0.false) (and_then c.put_name.ensures (and_then c.put-2.ensures (and_then c.decimal.ensures c.put-3.ensures)))
