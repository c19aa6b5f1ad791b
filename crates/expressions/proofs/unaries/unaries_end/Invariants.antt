use mathlib.Core.Path.{◌≡◌}
use Prim.Native.Nat.{◌+◌, ◌≤◌, min}
use lib.ListN.{length}
use Rattle.layout.specs.Words.{unaries_words}
use Rattle.layout.specs.Emission.{last_address}
use Rattle.expressions.specs.Chains.{unaries_of}
use Rattle.expressions.proofs.UnaryLaws.{to_come}
use Rattle.expressions.proofs.unaries.unaries_end.Given as goal

-- The invariant: `end` and the words still to come make up the address after all, up to the last.
abbrev pub invariant-loop-left : goal.invariant-loop-left
invariant-loop-left l =
    (l.end ≤ last_address) × (min last_address (l.end + length (to_come l.source l._left l.i)) ≡ min last_address (l.start + length (unaries_words (unaries_of l.source l.at))))

abbrev pub decreases-loop-left : goal.decreases-loop-left
decreases-loop-left l = l._left
