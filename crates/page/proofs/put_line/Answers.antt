use Rattle.text.proofs.Laws.{and_then}
use Rattle.page.specs.Page.{farm_line}
use Rattle.page.proofs.put_line.Goals as goal

pub returns : goal.returns
unfolding farm_line
returns c = and_then c.left.ensures (and_then c.put.ensures (and_then c.right.ensures (and_then c.put-2.ensures (and_then c.right-2.ensures c.put-3.ensures))))
