use Rattle.text.proofs.Laws.{and_then}
use Rattle.listing_lines.proofs.put_number.Goals as goal

pub returns : goal.returns
returns c = and_then c.put.ensures (and_then c.decimal.ensures c.byte.ensures)
