use mathlib.Core.Path.{◌∙◌}
use native.Mathlib.Omega.{arith}
use lib.Seq.{length-sets}
use Rattle.expressions.proofs.UnaryLaws.{turns, room, still_room, places}
use Rattle.expressions.proofs.unaries.place_unaries.Goals as goal

pub overflow_sub-place : goal.overflow_sub-place
overflow_sub-place c = room (turns _ _ _ c.token_at-t.ensures c.unary.ensures c.loop-left-test.true c.in-Some.is) c.width-place.ensures c.loop-left.invariant.2

pub loop-left-preserved : goal.loop-left-preserved
loop-left-preserved c = (simp (c.place_unary.ensures, length-sets) c.loop-left.invariant.0, omega arith, still_room (turns _ _ _ c.token_at-t.ensures c.unary.ensures c.loop-left-test.true c.in-Some.is) c.width-place.ensures c.loop-left.invariant.2, places (turns _ _ _ c.token_at-t.ensures c.unary.ensures c.loop-left-test.true c.in-Some.is) c.width-place.ensures _ c.loop-left.invariant.2 c.place_unary.ensures ∙ c.loop-left.invariant.3)
