use Rattle.expressions.proofs.Leaves.{hole_later}
use Rattle.expressions.proofs.RelationLaws.{greater}
use Rattle.expressions.proofs.relation.emit_greater.Goals as goal

pub returns : goal.returns
returns c = greater (hole_later c.emit_hole-past.ensures) c.emit_generic-after_nop.ensures.emitted (hole_later c.emit_hole-last.ensures) c.fill_jump.ensures
