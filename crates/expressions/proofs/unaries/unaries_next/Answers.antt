use mathlib.Core.Path.{sym, ◌∙◌}
use Rattle.expressions.proofs.UnaryLaws.{turns}
use Rattle.expressions.proofs.unaries.unaries_next.Goals as goal

pub loop-left-preserved : goal.loop-left-preserved
loop-left-preserved c = sym (turns _ _ _ c.token_at-t.ensures c.unary.ensures c.loop-left-test.true c.in-Some.is).next ∙ c.loop-left.invariant
