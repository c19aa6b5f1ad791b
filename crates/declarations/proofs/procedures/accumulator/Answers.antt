use mathlib.Core.Path.{refl}
use Rattle.parser.specs.Reads.Reads.{fails}
use Rattle.declarations.specs.Forms.{accumulator_in}
use Rattle.parser.proofs.Answers.{then_got, then_failed, gives_read, gives_failed, onward}
use Rattle.parser.proofs.ReadLaws.{reads_on}
use Rattle.declarations.proofs.procedures.accumulator.Goals as goal

pub returns-in_default : goal.returns-in_default
unfolding accumulator_in
returns-in_default c = fails (onward (gives_failed (λ t. t) c.expect-word.ensures c.unwrap_err.ensures) (then_failed _)) refl tt

pub returns : goal.returns
unfolding accumulator_in
returns c = reads_on (then_got _ (gives_read (λ t. t) c.expect-word.ensures c.in-Ok.is)) c.procedure.ensures
