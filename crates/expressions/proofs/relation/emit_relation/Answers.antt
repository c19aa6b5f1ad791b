use Rattle.expressions.proofs.RelationLaws.{same_kind, equal, last_kind, at_least_lem}
use mathlib.Core.Path.{ap}
use Rattle.source.specs.Kinds.{kind_number}
use Rattle.source.specs.declared.kind.Kind.TheVariants as Kind
use Rattle.source.proofs.KindLaws.{apart}
use Rattle.expressions.proofs.relation.emit_relation.Goals as goal

pub returns-in-Equal : goal.returns-in-Equal
returns-in-Equal c = same_kind (ap kind_number c.in-Equal.is) (equal c.emit_generic-after_skip.ensures.emitted c.emit_test-in-Equal.ensures)

pub returns-in_default : goal.returns-in_default
returns-in_default c = let d = c.in_default in last_kind (apart _ Kind.Equal d.not-Equal) (apart _ Kind.NotEqual d.not-NotEqual) (apart _ Kind.Less d.not-Less) (apart _ Kind.Greater d.not-Greater) (apart _ Kind.AtMost d.not-AtMost) (at_least_lem c.emit_generic-after_nop.ensures.emitted c.emit_test-in_default.ensures)
