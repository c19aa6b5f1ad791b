use Rattle.text.proofs.Laws.{and_then}
use Rattle.report.proofs.globals.put_element.Goals as goal

pub returns : goal.returns
returns c = and_then c.put_head.ensures (and_then c.signed.ensures c.put_end.ensures)
