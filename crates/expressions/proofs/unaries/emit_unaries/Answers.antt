use Rattle.expressions.proofs.UnaryLaws.{laid}
use Rattle.expressions.proofs.unaries.emit_unaries.Goals as goal

pub returns : goal.returns
returns c = laid _ c.unaries_end-next.ensures c.if-next.false c.place_unaries.ensures
