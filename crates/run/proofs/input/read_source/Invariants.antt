use mathlib.Core.Path.{◌≡◌}
use Prim.Native.Nat.{◌-◌, ◌≤◌}
use lib.ListN.{length}
use Rattle.run.proofs.input.read_source.Given as goal

-- The invariant: no more is read than there is room for.
abbrev pub invariant-loop-n : goal.invariant-loop-n
invariant-loop-n g l = (length l.text ≡ length l.initial.text) × (l.n ≤ length l.text)

abbrev pub decreases-loop-n : goal.decreases-loop-n
decreases-loop-n g l = length l.text - l.n
