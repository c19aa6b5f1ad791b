use Rattle.text.proofs.Laws.{and_then}
use Rattle.listing_lines.specs.Texts.{word_line}
use Rattle.listing_lines.proofs.put_word.Goals as goal

pub returns : goal.returns
unfolding word_line
returns c = and_then c.put.ensures (and_then c.octal.ensures c.put_line.ensures)
