use mathlib.Core.Path.{ap}
use mathlib.Core.Logic.{⊎_elim, inl, inr}
use Rattle.word.specs.Shift.{LRS}
use Rattle.source.specs.Kinds.{kind_number}
use Rattle.source.specs.declared.kind.Kind.TheVariants as Kind
use Rattle.source.proofs.KindLaws.{apart}
use Rattle.emitter.proofs.EmittedWords.{emits_none, emits_shift}
use Rattle.expressions.proofs.OperatorLaws.{before_division, none_before}
use Rattle.expressions.proofs.operators.emit_before.Goals as goal

pub returns-in-Slash : goal.returns-in-Slash
returns-in-Slash c = record { emits = λ f. rw (before_division _ (⊎_elim (λ e. inl (ap kind_number e)) (λ e. inr (ap kind_number e)) c.in-Slash.is)) (emits_shift LRS 15 c.emit_shift.ensures) }

pub returns-in_default : goal.returns-in_default
returns-in_default c = record { emits = λ f. rw (none_before (kind_number c.args.kind) (apart _ Kind.Slash c.in_default.not-Slash) (apart _ Kind.Mod c.in_default.not-Mod)) emits_none }
