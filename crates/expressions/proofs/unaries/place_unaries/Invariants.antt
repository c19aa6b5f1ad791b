use mathlib.Core.Path.{◌≡◌}
use Prim.Native.Nat.{◌-◌, ◌≤◌}
use lib.ListN.{length}
use lib.Seq.{sets}
use Rattle.layout.specs.Words.{unaries_words}
use Rattle.expressions.specs.Chains.{unaries_of}
use Rattle.expressions.specs.Unaries.{values}
use Rattle.expressions.proofs.UnaryLaws.{to_come}
use Rattle.expressions.proofs.unaries.place_unaries.Given as goal

-- The invariant: the words still to come, placed below `place`, make up the image that is promised.
abbrev pub invariant-loop-left : goal.invariant-loop-left
invariant-loop-left l =
    (length l.image ≡ length l.initial.image) × (l.place ≤ l.end) × (length (to_come l.source l._left l.i) ≤ l.place) × (sets l.image (l.place - length (to_come l.source l._left l.i)) (values (to_come l.source l._left l.i)) ≡ sets l.initial.image (l.end - length (unaries_words (unaries_of l.source l.at))) (values (unaries_words (unaries_of l.source l.at))))

abbrev pub decreases-loop-left : goal.decreases-loop-left
decreases-loop-left l = l._left
