use Rattle.text.proofs.Laws.{and_then}
use Rattle.listing_lines.specs.Texts.{count_lines}
use Rattle.listing_lines.proofs.put_counts.Goals as goal

pub returns : goal.returns
unfolding count_lines
returns c = and_then c.put_line.ensures (and_then c.put_number.ensures c.put_number-2.ensures)
