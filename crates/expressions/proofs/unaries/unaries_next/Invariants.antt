use mathlib.Core.Path.{◌≡◌}
use Rattle.expressions.specs.Chains.{unaries_by, unaries_next}
use Rattle.expressions.proofs.unaries.unaries_next.Given as goal

-- The invariant: the words from `i` on, up to `k`, end where all end.
abbrev pub invariant-loop-left : goal.invariant-loop-left
invariant-loop-left l = (unaries_by l.source l._left l.i).1 ≡ unaries_next l.source l.at

abbrev pub decreases-loop-left : goal.decreases-loop-left
decreases-loop-left l = l._left
