use Prim.Native.Nat.{◌*◌, ◌+◌}
use Rattle.expressions.proofs.Body.+parts.Given as goal

abbrev pub decreases-alternative : goal.decreases-alternative
decreases-alternative l = 8 * l.left + 1

abbrev pub decreases-bracketed : goal.decreases-bracketed
decreases-bracketed l = 8 * l.left + 1

abbrev pub decreases-call : goal.decreases-call
decreases-call l = 8 * l.left + 2

abbrev pub decreases-chain : goal.decreases-chain
decreases-chain l = 8 * l.left + 4

abbrev pub decreases-choice : goal.decreases-choice
decreases-choice l = 8 * l.left + 2

abbrev pub decreases-condition : goal.decreases-condition
decreases-condition l = 8 * l.left + 1

abbrev pub decreases-expression : goal.decreases-expression
decreases-expression l = 8 * l.left

abbrev pub decreases-term : goal.decreases-term
decreases-term l = 8 * l.left + 3
