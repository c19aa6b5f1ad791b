use Rattle.text.proofs.Laws.{and_then}
use Rattle.listing_lines.proofs.put_line.Goals as goal

pub returns : goal.returns
returns c = and_then c.put.ensures (and_then c.octal.ensures c.put-2.ensures)
