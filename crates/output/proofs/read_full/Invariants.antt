-- No more is read than there is room for, and each round that goes on reads something.
use Rattle.std.specs.Prelude.{◌-◌, ◌≤◌, length}
use Rattle.output.proofs.read_full.Given as goal

abbrev pub invariant-loop-n : goal.invariant-loop-n
invariant-loop-n g l = l.n ≤ length l.text

abbrev pub decreases-loop-n : goal.decreases-loop-n
decreases-loop-n g l = length l.initial.text - l.n
