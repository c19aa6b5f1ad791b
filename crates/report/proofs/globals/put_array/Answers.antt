use Rattle.text.proofs.Laws.{and_then, same_added}
use Rattle.report.proofs.Laws.{no_elements}
use Rattle.report.proofs.globals.put_array.Goals as goal

pub returns-then-size-eq0 : goal.returns-then-size-eq0
returns-then-size-eq0 c = same_added (no_elements _ _ 0 _ _ c.if-size-eq0.true) (and_then c.put_name.ensures c.put.ensures)
