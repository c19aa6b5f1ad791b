use Rattle.text.proofs.Laws.{and_then}
use Rattle.listing_lines.specs.Texts.{result_lines}
use Rattle.listing_lines.proofs.put_result.Goals as goal

pub returns : goal.returns
unfolding result_lines
returns c = and_then c.put_number.ensures c.put_number-2.ensures
