use Rattle.digits.specs.Digits.{left_in}
use Rattle.text.proofs.Laws.{and_then}
use Rattle.text.proofs.Text.left.Goals as goal

pub returns : goal.returns
unfolding left_in
returns c = and_then c.put.ensures (rw c.free.ensures at c.spaces.ensures)
