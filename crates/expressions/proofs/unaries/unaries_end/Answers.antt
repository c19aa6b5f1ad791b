use native.Mathlib.Omega.{arith}
use Rattle.expressions.proofs.UnaryLaws.{turns, advances}
use Rattle.expressions.proofs.unaries.unaries_end.Goals as goal

pub loop-left-preserved : goal.loop-left-preserved
loop-left-preserved c = (let h = c.advance-end.ensures in omega (arith, h), advances (turns _ _ _ c.token_at-t.ensures c.unary.ensures c.loop-left-test.true c.in-Some.is) c.width.ensures _ c.advance-end.ensures c.loop-left.invariant.1)
