use Rattle.expressions.proofs.Leaves.{hole_later}
use Rattle.expressions.proofs.RelationLaws.{at_most_lem}
use Rattle.expressions.proofs.relation.emit_at_most.Goals as goal

pub returns : goal.returns
returns c = at_most_lem (hole_later c.emit_hole-first.ensures) c.emit_generic.ensures.emitted
