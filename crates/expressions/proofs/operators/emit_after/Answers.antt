use Rattle.source.specs.Kinds.{kind_number}
use Rattle.word.specs.Shift.{LLS}
use Rattle.instruction.specs.Slot.{IAB}
use Rattle.emitter.proofs.EmittedWords.{emits_none, emits_shift, emits_generic}
use Rattle.expressions.proofs.OperatorLaws.{after_product, after_remainder, none_after}
use mathlib.Core.Path.{ap}
use Rattle.source.specs.declared.kind.Kind.TheVariants as Kind
use Rattle.source.proofs.KindLaws.{apart}
use Rattle.expressions.proofs.operators.emit_after.Goals as goal

pub returns-in-Star : goal.returns-in-Star
returns-in-Star c = record { emits = λ f. rw (after_product _ (ap kind_number c.in-Star.is)) (emits_shift LLS 15 c.emit_shift.ensures) }

pub returns-in-Mod : goal.returns-in-Mod
returns-in-Mod c = record { emits = λ f. rw (after_remainder _ (ap kind_number c.in-Mod.is)) (emits_generic IAB c.emit_generic.ensures) }

pub returns-in_default : goal.returns-in_default
returns-in_default c = record { emits = λ f. rw (none_after (kind_number c.args.kind) (apart _ Kind.Star c.in_default.not-Star) (apart _ Kind.Mod c.in_default.not-Mod)) emits_none }
