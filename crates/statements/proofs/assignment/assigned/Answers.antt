use Rattle.statements.specs.Forms.{after_equal}
use mathlib.Core.Path.{refl}
use Rattle.parser.proofs.Answers.{gives_read}
use Rattle.parser.proofs.ReadLaws.{missing}
use Rattle.emitter.proofs.Lays.{here}
use Rattle.statements.proofs.Forms.{from_got}
use Rattle.statements.proofs.assignment.assigned.Goals as goal

pub returns-in_default : goal.returns-in_default
unfolding after_equal
returns-in_default c = missing (λ t. t) _ _ c.expect-equal.ensures c.unwrap_err.ensures refl here

pub returns : goal.returns
unfolding after_equal
returns c = from_got _ (gives_read (λ t. t) c.expect-equal.ensures c.in-Ok.is) c.expression.ensures
