use Rattle.digits.specs.Digits.{right_in}
use Rattle.text.proofs.Laws.{and_then}
use Rattle.text.proofs.Text.right.Goals as goal

pub returns : goal.returns
unfolding right_in
returns c = and_then (rw (c.free.ensures, c.decimal_length.ensures) at c.spaces.ensures) c.decimal.ensures
