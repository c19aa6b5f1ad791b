use mathlib.Core.Path.{refl}
use Rattle.parser.specs.Reads.Reads.{read, fails}
use Rattle.emitter.proofs.Lays.{here}
use Rattle.parser.proofs.Answers.{gives_read, gives_failed}
use Rattle.expressions.proofs.Leaves.{shift}
use Rattle.expressions.proofs.Body.shifted.Goals as goal

pub returns-in_default : goal.returns-in_default
returns-in_default c = fails (gives_failed (λ v. v) c.amount_at-read.ensures c.unwrap_err.ensures) refl here

pub returns : goal.returns
returns c = read (gives_read (λ v. v) c.amount_at-read.ensures c.in-Ok.is) refl (shift _ _ _ c.emit_shift.ensures.emitted)
