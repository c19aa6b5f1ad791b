use mathlib.Core.Path.{refl}
use Rattle.layout.specs.Words.{◌⧺◌}
use Rattle.emitter.proofs.Lays.{after_words, same_forward}
use Rattle.expressions.proofs.Leaves.{generic, hole_later}
use Rattle.expressions.proofs.relation.emit_test.Goals as goal

pub returns : goal.returns
unfolding ◌⧺◌
returns c = record { forward = λ f. same_forward (λ at z. refl) (after_words (generic f _ c.emit_generic-after_skip.ensures.emitted) ((hole_later c.emit_hole.ensures).forward f)) }
